-- What `is_safe_at` leaves to be shown: a checking loop over the four suits.
use mathlib.Core.Path.{◌≡◌}
use mathlib.Core.Bool.{true}
use Prim.Native.Nat.{◌-◌, ◌≤◌}
use Rattle.base.specs.Words.{every}
use Rattle.safe.proofs.Judging.{enough}
use Rattle.safe.proofs.is_safe_at.Given as goal

abbrev pub invariant-loop-s : goal.invariant-loop-s
invariant-loop-s l = (l.s ≤ 4) × (every l.s (enough l.foundation l.code) ≡ true)
