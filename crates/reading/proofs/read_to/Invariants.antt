-- What `read_to` leaves to be shown: move after move, as the line is defined.
use Prim.Native.Nat.{◌-◌}
use lib.ListN.{length}
use Rattle.board.specs.Record.{shown, laid}
use Rattle.reading.proofs.Passing.{Passing}
use Rattle.reading.proofs.read_to.Given as goal

abbrev pub invariant-loop-at : goal.invariant-loop-at
invariant-loop-at l = Passing (shown (laid l.initial.cells l.initial.foundation l.initial.counts l.initial.tableau)) l.text l.initial.list (laid l.cells l.foundation l.counts l.tableau) l.list l.n l.at

abbrev pub decreases-loop-at : goal.decreases-loop-at
decreases-loop-at l = length l.text - l.at
