-- What `put_run` leaves to be shown: one column is changed.
use Rattle.play.proofs.Changing.{becomes_run}
use Rattle.board.specs.Record.{laid}
use Rattle.play.proofs.put_run.Goals as goal

pub returns : goal.returns
returns c = record { becomes = λ cells foundation. becomes_run (laid cells foundation c.args.counts.now c.args.tableau.now) c.requires.good_columns c.args.source c.args.destination c.requires.source_bound c.requires.destination_bound c.args.n c.requires.n_bound c.requires.n_bound_2 c.from.result c.from.ensures c.from-count.result c.from-count.ensures _ c.copy.ensures }
