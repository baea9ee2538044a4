-- What `first_safe_at` leaves to be shown: place by place, nothing safe at those passed.
use Prim.Native.Nat.{◌-◌}
use Rattle.safe.proofs.Passing.{Passed}
use Rattle.board.specs.Record.{laid}
use Rattle.safe.proofs.first_safe_at.Given as goal

abbrev pub invariant-loop-place : goal.invariant-loop-place
invariant-loop-place l = Passed (laid l.cells l.foundation l.counts l.tableau) l.place
