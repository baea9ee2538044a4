-- What `store` leaves to be shown: one word and one byte.
use Rattle.costs.proofs.Storing.{stored}
use Rattle.costs.proofs.store.Goals as goal

pub returns : goal.returns
returns c = stored c.args.cost c.requires.table c.requires.place c.requires.cost_bound
