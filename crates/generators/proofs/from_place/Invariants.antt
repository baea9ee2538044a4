-- What `from_place` leaves to be shown: place after place, the moves of one card.
use Rattle.board.specs.Record.{shown, laid}
use Rattle.generate.specs.Found.{target_count, found_between}
use Rattle.generate.proofs.Writing.{Walked}
use Rattle.generators.proofs.from_place.Given as goal

abbrev pub invariant-loop-j : goal.invariant-loop-j
invariant-loop-j l = Walked (found_between (shown (laid l.cells l.foundation l.counts l.tableau)) l.way l.i) (target_count l.way) l.initial.out l.n l.out l.made l.j
