-- The greatest over places: with one term changed, and under other numbers. (Of a sum: `sum_changed` of base/proofs/Sums.antt,
-- `sum-renumbered` of board/proofs/Renumbering.antt.)
use mathlib.Core.Path.{◌≡◌, sym, ap}
use Prim.Native.Nat.{ℕ, zero, suc, ◌<◌, ◌≤◌, max}
use native.Mathlib.Omega.{arith}
use native.Mathlib.Decide.{ℕ_discrete}
use Rattle.board.specs.Renumbered.{Renumbers}
use Rattle.features.specs.Features.{greatest}
use Rattle.features.proofs.Extremes.{greatest_most}

pub greatest_above : (f : ℕ → ℕ) (n k : ℕ) → k < n → f k ≤ greatest n f
unfolding greatest
greatest_above f zero k h = absurd (let z : ⊥ = omega arith in z)
greatest_above f (suc n) k h = by_side (greatest_above f n k) (ℕ_discrete k n)
  where
    by_side : (k < n → f k ≤ greatest n f) → Dec (k ≡ n) → f k ≤ max (greatest n f) (f n)
    by_side before (yes e) = let q = ap f e in omega arith
    by_side before (no d) = let b = before (omega arith) in omega arith

-- ---- one term changed

pub greatest_changed : (f g : ℕ → ℕ) (n i : ℕ) → i < n → ((k : ℕ) → k < n → (k ≡ i → ⊥) → f k ≡ g k)
    → max (greatest n f) (g i) ≡ max (greatest n g) (f i)
greatest_changed f g n i h same =
    let a = within f g same in
    let b = within g f (λ k l d. sym (same k l d)) in
    let x = greatest_above f n i h in
    let y = greatest_above g n i h in
    omega arith
  where
    within : (f g : ℕ → ℕ) → ((k : ℕ) → k < n → (k ≡ i → ⊥) → f k ≡ g k) → greatest n f ≤ max (greatest n g) (f i)
    within f g same = greatest_most f n (max (greatest n g) (f i)) (λ k l. by_side k l (ℕ_discrete k i))
      where
        by_side : (k : ℕ) → k < n → Dec (k ≡ i) → f k ≤ max (greatest n g) (f i)
        by_side k l (yes e) = let q = ap f e in omega arith
        by_side k l (no d) = let e = same k l d in let b = greatest_above g n k l in omega arith

-- ---- other numbers

module _ {n : ℕ} {p q : ℕ → ℕ} (r : Renumbers n p q) (f : ℕ → ℕ) where
  pub greatest-renumbered : greatest n (λ i. f (p i)) ≡ greatest n f
  greatest-renumbered =
      let a = greatest_most (λ i. f (p i)) n (greatest n f) (λ k h. greatest_above f n (p k) (r.within k h)) in
      let b = greatest_most f n (greatest n (λ i. f (p i)))
      (λ k h. let m = greatest_above (λ i. f (p i)) n (q k) (r.again k h) in let e = ap f (r.forth k h) in omega arith) in
      omega arith
