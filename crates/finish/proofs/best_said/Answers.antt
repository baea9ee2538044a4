-- What `best_said` leaves to be shown: the last board of the best line is asked.
use Rattle.finish.proofs.Handing.{said_finished, said_unfinished}
use Rattle.finish.proofs.best_said.Goals as goal

pub returns-then-won_at : goal.returns-then-won_at
returns-then-won_at c = said_finished c.requires.sound c.requires.nodes c.requires.best_lt_born c.board_of-b.ensures.value c.won_at.ensures c.if-won_at.true

pub returns : goal.returns
returns c = said_unfinished c.requires.sound c.requires.nodes c.requires.best_lt_born c.board_of-b.ensures.value c.won_at.ensures c.if-won_at.false
