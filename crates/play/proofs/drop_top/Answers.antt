-- What `drop_top` leaves to be shown: one column is changed.
use Rattle.play.proofs.Changing.{becomes_dropped}
use Rattle.board.specs.Record.{laid}
use Rattle.play.proofs.drop_top.Goals as goal

pub returns : goal.returns
returns c = record { becomes = λ cells foundation. becomes_dropped (laid cells foundation c.args.counts.now c.args.tableau.now) c.requires.good_columns c.args.i c.requires.i_bound c.args.n c.requires.n_bound c.from.result c.from.ensures _ c.clear.ensures }
