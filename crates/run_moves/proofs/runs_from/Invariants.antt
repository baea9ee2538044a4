-- What `runs_from` leaves to be shown: column after column.
use Rattle.board.specs.Record.{shown, laid}
use Rattle.generate.specs.Found.{found_between}
use Rattle.generate.specs.declared.Way.TheVariants.{ColumnToColumn}
use Rattle.generate.proofs.Writing.{Walked}
use Rattle.run_moves.proofs.runs_from.Given as goal

abbrev pub invariant-loop-j : goal.invariant-loop-j
invariant-loop-j l = Walked (found_between (shown (laid l.cells l.foundation l.counts l.tableau)) ColumnToColumn l.i) 8 l.initial.out l.n l.out l.made l.j
