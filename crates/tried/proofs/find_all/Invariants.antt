-- What `find_all` leaves to be shown: the moves of the kinds so far are written.
use Rattle.std.specs.List.{flat_map}
use Rattle.std.proofs.Common.{take}
use Rattle.board.specs.Record.{shown, laid}
use Rattle.generate.specs.Found.{found}
use Rattle.moves.specs.Written.{Adds}
use Rattle.tried.proofs.find_all.Given as goal

abbrev pub invariant-loop-way : goal.invariant-loop-way
invariant-loop-way l = Adds l.initial.out l.out l.at l.made (flat_map (found (shown (laid l.cells l.foundation l.counts l.tableau))) (take l.way-index l.ways))
