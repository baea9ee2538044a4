-- What `deepest` leaves to be shown: the place of the card is within the column.
use Rattle.sense.proofs.Finding.{deepest_is}
use Rattle.sense.proofs.meant.deepest.Goals as goal

pub returns-clause-value : goal.returns-clause-value
returns-clause-value c = deepest_is c.requires.good_columns c.args.i c.args.n c.from-lie.result c.requires.i_bound c.requires.le_n c.requires.n_bound c.from-lie.ensures
