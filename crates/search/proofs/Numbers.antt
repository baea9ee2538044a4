-- What the numbers of a best-progress list say.
use mathlib.Core.Path.{◌≡◌, refl, sym}
use mathlib.Core.Bool.{Bool, true, false}
use mathlib.Core.Logic.{inl, inr}
use Prim.Native.Nat.{ℕ}
use native.Mathlib.Omega.{arith}
use Rattle.search.specs.Solve.{best_said}
use Rattle.search.specs.Claims.{brings_list, is_best_at_limit, is_best, is_limit}

-- at the limit a list is called 1 or 5
pub limit_said_lem : (w : Bool) {n : ℕ} → best_said w ≡ n → is_best_at_limit n
limit_said_lem true e = inr (sym e)
limit_said_lem false e = inl (sym e)

pub said_won : (w : Bool) → best_said w ≡ 5 → w ≡ true
said_won true e = refl
said_won false e = absurd (let z : ⊥ = omega arith in z)

pub said_unwon : (w : Bool) → best_said w ≡ 1 → w ≡ false
said_unwon true e = absurd (let z : ⊥ = omega arith in z)
said_unwon false e = refl

pub said_brings : (w : Bool) → brings_list (best_said w) ≡ true
said_brings true = refl
said_brings false = refl

-- a number that is none of these
pub not_at_limit : {n : ℕ} → ((n ≡ 1) → ⊥) → ((n ≡ 5) → ⊥) → is_best_at_limit n → ⊥
not_at_limit f g (inl e) = f e
not_at_limit f g (inr e) = g e

pub not_best : {n : ℕ} → ((n ≡ 1) → ⊥) → ((n ≡ 2) → ⊥) → ((n ≡ 5) → ⊥) → is_best n → ⊥
not_best f g h (inl e) = not_at_limit f h e
not_best f g h (inr e) = g e

pub not_limit : {n : ℕ} → ((n ≡ 1) → ⊥) → ((n ≡ 3) → ⊥) → ((n ≡ 5) → ⊥) → is_limit n → ⊥
not_limit f g h (inl e) = not_at_limit f h e
not_limit f g h (inr e) = g e
