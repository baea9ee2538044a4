-- What `run_move` leaves to be shown: the card is the one that lies there.
use Rattle.sense.proofs.Finding.{run_is}
use Rattle.sense.proofs.meant.run_move.Goals as goal

pub returns : goal.returns
returns c = run_is c.requires.sound c.args.i c.args.j c.requires.i_bound c.args.n c.deepest-code.ensures.value c.card_of-card.ensures
