-- What `room_for` leaves to be shown: two entries a node.
use mathlib.Core.Path.{ap}
use Prim.Native.Nat.{ℕ}
use Rattle.solver.specs.Capacity.{entries_of}
use Rattle.solver.proofs.room_for.Goals as goal

pub returns : goal.returns
unfolding entries_of
returns c = ap (λ (n : ℕ). record { capacity = c.args.capacity; entries = n }) c.min.ensures
