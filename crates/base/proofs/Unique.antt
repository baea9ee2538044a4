-- Every promise allows one result only. Where a promise is `r ≡ d` that is `once`; where it tells a result by its meaning, no two
-- results mean the same.
use mathlib.Core.Path.{◌≡◌, sym, ap, refl, ◌∙◌}
use Prim.Native.Nat.{ℕ}
use Rattle.std.specs.Prelude.{Option, Some, None}
use Rattle.base.specs.Answer.{Answer, given, refused, given_or}

-- two results that are both d are one
pub once : {A : Type 0} {r s d : A} → r ≡ d → s ≡ d → r ≡ s
once p q = p ∙ sym q

-- two results whose meanings are both m are one, where the meaning gives the result back
pub told_once : {A B : Type 0} (told : A → B) (back : B → A) → ((a : A) → back (told a) ≡ a) → {r s : A} {m : B} → told r ≡ m → told s ≡ m → r ≡ s
told_once told back law {r} {s} p q = sym (law r) ∙ ap back (p ∙ sym q) ∙ law s

found : {A : Type 0} → Answer A → Option A
found (given a) = Some a
found (refused n) = None

found_law : {A : Type 0} (n : ℕ) (r : Option A) → found (given_or n r) ≡ r
unfolding found
found_law n (Some a) = refl
found_law n None = refl

-- what is found, or nothing
pub given_once : {A : Type 0} (n : ℕ) {a : Answer A} {r s : Option A} → given_or n r ≡ a → given_or n s ≡ a → r ≡ s
given_once n = told_once (given_or n) found (found_law n)
