-- `season` has one result only: what is said and every lent place.
use Rattle.board.proofs.Unique.{answered_once}
use Rattle.std.specs.Prelude.{Result}
use Rattle.board.specs.declared.Refusal.{Refusal}
use mathlib.Core.Path.{◌≡◌}
use mathlib.Core.Bool.{Bool}
use Prim.Native.Nat.{ℕ}
use Rattle.base.proofs.Unique.{once}
use Rattle.season.specs.Season.{Lent}
use Rattle.season.specs.Inner.{Leaves}

pub season_once : {old x y : Lent} {first last budget : ℕ} {partial : Bool} {r s : Result (Unit {0}) Refusal} → Leaves old x first last budget partial r
    → Leaves old y first last budget partial s → (x ≡ y) × (r ≡ s)
season_once {r = r} {s = s} p q = (once p.left q.left, answered_once {r = r} {s = s} p.said q.said)
