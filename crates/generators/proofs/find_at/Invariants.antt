-- What `find_at` leaves to be shown: place after place.
use Rattle.board.specs.Record.{shown, laid}
use Rattle.generate.specs.Found.{source_count, found_from}
use Rattle.generate.proofs.Writing.{Walked}
use Rattle.generators.proofs.find_at.Given as goal

abbrev pub invariant-loop-i : goal.invariant-loop-i
invariant-loop-i l = Walked (found_from (shown (laid l.cells l.foundation l.counts l.tableau)) l.way) (source_count l.way) l.initial.out l.n l.out l.made l.i
