-- An answer that is given passed its test.
use mathlib.Core.Path.{◌≡◌, refl}
use mathlib.Core.Bool.{Bool, true, false}
use Prim.Native.Nat.{ℕ}
use native.Mathlib.Omega.{arith}
use Rattle.base.specs.Answer.{Answer, given, unless}

pub given_by : {A : Type 0} (ok : Bool) (n : ℕ) (a : Answer A) {x : A} → unless ok n a ≡ given x → (ok ≡ true) × (a ≡ given x)
given_by true n a e = (refl, e)
given_by false n a e = let z : ◌≡◌ {A = ℕ} 0 1 = cc in absurd (let w : ⊥ = omega arith in w)
