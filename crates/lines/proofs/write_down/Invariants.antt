-- What `write_down` leaves to be shown: the steps from a place of the path on are made and written.
use Rattle.lines.proofs.Telling.{Telling}
use Rattle.lines.proofs.write_down.Given as goal

abbrev pub invariant-loop-left : goal.invariant-loop-left
invariant-loop-left l = Telling l.initial.board l.path l.deep l.initial.list l.board l.left l.list l.records
