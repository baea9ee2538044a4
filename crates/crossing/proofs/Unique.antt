-- Every promise here, and every promise of the functions that C calls, allows one result only: each is an equation whose left side is all
-- that the call hands back and leaves.
use mathlib.Core.Path.{◌≡◌, ap}
use Prim.Native.Nat.{ℕ}
use Rattle.base.proofs.Unique.{once}
use Rattle.crossing.specs.Crossing.{Left, left}

-- the number and the lent places, however many
pub left_once : {A : Type 0} {r s : ℕ} {p q : A} {d : Left A} → left r p ≡ d → left s q ≡ d → (r ≡ s) × (p ≡ q)
left_once {A} e f = (ap (λ (l : Left A). l.number) (once e f), ap (λ (l : Left A). l.places) (once e f))

-- where they are two
pub left_twice : {A B : Type 0} {r s : ℕ} {p q : A} {x y : B} {d : Left (A × B)} → left r (p, x) ≡ d → left s (q, y) ≡ d → (r ≡ s) × ((p ≡ q) × (x ≡ y))
left_twice {A} {B} e f =
    let both = left_once e f in
    (both.0, (ap (λ (z : A × B). z.0) both.1, ap (λ (z : A × B). z.1) both.1))
