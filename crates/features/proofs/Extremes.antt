-- The greatest and the least of some numbers.
use mathlib.Core.Path.{◌≡◌, refl, sym, ap, ap₂, ◌∙◌}
use mathlib.Core.List.{List, [], map}
use Prim.Native.Nat.{ℕ, zero, suc, ◌<◌, ◌≤◌, min, max}
use native.Mathlib.Omega.{arith}
use lib.ListN.{get_or}
use Rattle.std.specs.List.{fold, range_with_len}
use Rattle.base.specs.Words.{listed}
use Rattle.base.proofs.Words.{get_or-listed}
use Rattle.runs.specs.Run.{run_length}
use Rattle.features.specs.Features.{greatest, least, longest_run}

pub greatest_most : (f : ℕ → ℕ) (n most : ℕ) → ((k : ℕ) → k < n → f k ≤ most) → greatest n f ≤ most
unfolding greatest
greatest_most f zero most h = omega arith
greatest_most f (suc n) most h = let g = greatest_most f n most (λ k l. h k (omega arith)) in let e = h n (omega arith) in omega arith

greatest_same : (f g : ℕ → ℕ) (n : ℕ) → ((k : ℕ) → k < n → f k ≡ g k) → greatest n f ≡ greatest n g
unfolding greatest
greatest_same f g zero h = refl
greatest_same f g (suc n) h = ap₂ max (greatest_same f g n (λ k l. h k (omega arith))) (h n (omega arith))

-- the eight columns' runs, one after the other
pub longest_is : (f : ℕ → List ℕ) → fold max 0 (map (λ i. run_length (f i)) (range_with_len 0 8)) ≡ longest_run (listed 8 f)
unfolding longest_run greatest
longest_is f = sym (greatest_same (λ i. run_length (get_or (listed 8 f) i [])) (λ i. run_length (f i)) 8 (λ k h. ap run_length (get_or-listed f 8 k [] h)))

-- ---- four of them, two by two

module _ (l : List ℕ) {a b c d : ℕ} (at-0 : a ≡ get_or l 0 0) (at_1 : b ≡ get_or l 1 0) (at_2 : c ≡ get_or l 2 0) (at-3 : d ≡ get_or l 3 0) where
  pub greatest_four : {p q r : ℕ} → p ≡ max a b → q ≡ max p c → r ≡ max q d → r ≡ greatest 4 (λ s. get_or l s 0)
  unfolding greatest
  greatest_four {p} {q} {r} e f g =
      g ∙ ap₂ max (f ∙ ap₂ max (e ∙ ap₂ max (at-0 ∙ (let z : get_or l 0 0 ≡ max 0 (get_or l 0 0) = omega arith in z)) at_1) at_2) at-3

  pub least_four : {p q r : ℕ} → p ≡ min a b → q ≡ min p c → r ≡ min q d → r ≡ least 3 (λ s. get_or l s 0)
  unfolding least
  least_four {p} {q} {r} e f g = g ∙ ap₂ min (f ∙ ap₂ min (e ∙ ap₂ min at-0 at_1) at_2) at-3
