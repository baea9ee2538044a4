-- What `lay` leaves to be shown: one column is changed by one card.
use Rattle.play.proofs.Changing.{becomes_laid}
use Rattle.board.specs.Record.{laid}
use Rattle.play.proofs.lay.Goals as goal

pub returns : goal.returns
returns c = record { becomes = λ cells foundation. becomes_laid (laid cells foundation c.args.counts.now c.args.tableau.now) c.requires.good_columns c.args.i c.requires.i_bound c.requires.i_bound_2 c.args.code c.requires.code_value c.from.result c.from.ensures }
