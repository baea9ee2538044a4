-- What `runs_into` leaves to be shown: length after length.
use Rattle.board.specs.Record.{shown, laid}
use Rattle.generate.specs.Inner.{tried_run}
use Rattle.generate.proofs.Writing.{Walked}
use Rattle.run_moves.proofs.runs_into.Given as goal

abbrev pub invariant-loop-k : goal.invariant-loop-k
invariant-loop-k l = Walked (tried_run (shown (laid l.cells l.foundation l.counts l.tableau)) l.i l.j) l.last l.initial.out l.n l.out l.made l.k
