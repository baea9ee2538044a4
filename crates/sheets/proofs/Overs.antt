-- Laws of sums over deals.
use mathlib.Core.Path.{◌≡◌, refl, ◌∙◌}
use mathlib.Core.Bool.{Bool, true, false, cond, ◌&&◌, ◌||◌}
use Prim.Native.Nat.{ℕ, zero, suc, ◌+◌, ◌*◌, ◌<◌, ◌≤◌}
use native.Mathlib.Nat.{not-suc-le-zero}
use native.Mathlib.Omega.{arith}
use native.Mathlib.Decide.{ℕ_discrete}
use borrow.Author.Tests.{eq-eqb, ne_eqb}
use lib.Dec.{eqb}
use Rattle.base.specs.Words.{sum}
use Rattle.base.proofs.Sums.{sum_same, sum_most, sum-add, sum-zero, sum_one, sum_swap, sum_part, sum_ones}
use Rattle.base.proofs.Words.{true_or_not}
use Rattle.sheets.specs.Over.{over}

-- ---- one test

pub both_parts : (a b : Bool) (x : ℕ) → (a && b) ≡ false → cond (a || b) x 0 ≡ cond a x 0 + cond b x 0
both_parts true true x e = true_or_not true refl e
both_parts true false x e = omega arith
both_parts false b x e = omega arith

pub sum-cond : (t : Bool) (f : ℕ → ℕ) (n : ℕ) → sum n (λ k. cond t (f k) 0) ≡ cond t (sum n f) 0
sum-cond true f n = refl
sum-cond false f n = sum-zero (λ k. 0) n (λ k l. refl)

-- a sum that is not 0 has a term that is not 0
pub sum_some : (f : ℕ → ℕ) (n : ℕ) → 0 < sum n f → (i : ℕ) × (i < n) × (0 < f i)
unfolding sum
sum_some f zero h = absurd (not-suc-le-zero h)
sum_some f (suc n) h = by_last (sum_some f n) (ℕ_discrete (f n) 0)
  where
    by_last : (0 < sum n f → (i : ℕ) × (i < n) × (0 < f i)) → Dec (f n ≡ 0) → (i : ℕ) × (i < suc n) × (0 < f i)
    by_last before (yes e) = let b = before (omega arith) in let l = b.1 in (b.0, omega arith, b.2)
    by_last before (no d) = (n, omega arith, omega arith)

times : (t : Bool) (x : ℕ) → cond t x 0 ≡ x * cond t 1 0
times true x = omega arith
times false x = omega arith

sum_times : (p : ℕ → Bool) (x n : ℕ) → sum n (λ i. cond (p i) x 0) ≡ x * sum n (λ i. cond (p i) 1 0)
unfolding sum
sum_times p x zero = omega arith
sum_times p x (suc n) = let e = sum_times p x n in let o = times (p n) x in omega arith

-- ---- sums over deals

-- an equation at each deal
pub over_same : (p q : ℕ → Bool) (f g : ℕ → ℕ) → ((i : ℕ) → i < 32000 → cond (p (suc i)) (f (suc i)) 0 ≡ cond (q (suc i)) (g (suc i)) 0) → over p f ≡ over q g
unfolding over
over_same p q f g h = sum_same (λ i. cond (p (suc i)) (f (suc i)) 0) (λ i. cond (q (suc i)) (g (suc i)) 0) 32000 h

pub over_most : (p q : ℕ → Bool) (f g : ℕ → ℕ) → ((i : ℕ) → i < 32000 → cond (p (suc i)) (f (suc i)) 0 ≤ cond (q (suc i)) (g (suc i)) 0) → over p f ≤ over q g
unfolding over
over_most p q f g h = sum_most (λ i. cond (p (suc i)) (f (suc i)) 0) (λ i. cond (q (suc i)) (g (suc i)) 0) 32000 h

-- two sets of deals with none in both
pub over_or : (p q : ℕ → Bool) (f : ℕ → ℕ) → ((i : ℕ) → i < 32000 → (p (suc i) && q (suc i)) ≡ false) → over (λ n. p n || q n) f ≡ over p f + over q f
unfolding over
over_or p q f none =
    sum_same (λ i. cond (p (suc i) || q (suc i)) (f (suc i)) 0) (λ i. cond (p (suc i)) (f (suc i)) 0 + cond (q (suc i)) (f (suc i)) 0) 32000
    (λ i l. both_parts (p (suc i)) (q (suc i)) (f (suc i)) (none i l))
    ∙ sum-add (λ i. cond (p (suc i)) (f (suc i)) 0) (λ i. cond (q (suc i)) (f (suc i)) 0) 32000

-- one deal alone
pub over_single : (f : ℕ → ℕ) (j : ℕ) → j < 32000 → over (λ n. eqb n (suc j)) f ≡ f (suc j)
unfolding over
over_single f j h =
    sum_one (λ i. cond (eqb (suc i) (suc j)) (f (suc i)) 0) 32000 j h (λ i l d. rw (ne_eqb (suc i) (suc j) (λ e. d (let q : i ≡ j = omega arith in q))))
    ∙ rw (eq-eqb (suc j) (suc j) refl)

pub over_none : (p : ℕ → Bool) (f : ℕ → ℕ) → ((i : ℕ) → i < 32000 → cond (p (suc i)) (f (suc i)) 0 ≡ 0) → over p f ≡ 0
unfolding over
over_none p f h = sum-zero (λ i. cond (p (suc i)) (f (suc i)) 0) 32000 h

-- a deal of the set counts
pub over_part : (p : ℕ → Bool) (f : ℕ → ℕ) (i : ℕ) → i < 32000 → cond (p (suc i)) (f (suc i)) 0 ≤ over p f
unfolding over
over_part p f i h = sum_part (λ i. cond (p (suc i)) (f (suc i)) 0) 32000 i h

pub over_some : (p : ℕ → Bool) (f : ℕ → ℕ) → 0 < over p f → (i : ℕ) × (i < 32000) × (0 < cond (p (suc i)) (f (suc i)) 0)
unfolding over
over_some p f h = sum_some (λ i. cond (p (suc i)) (f (suc i)) 0) 32000 h

-- a count is at most 32,000
pub over-count : (p : ℕ → Bool) → over p (λ n. 1) ≤ 32000
unfolding over
over-count p = sum_ones (λ i. cond (p (suc i)) 1 0) 32000 (λ i l. at_most_lem (p (suc i)))
  where
    at_most_lem : (t : Bool) → cond t 1 0 ≤ 1
    at_most_lem true = omega arith
    at_most_lem false = omega arith

-- the same number at each deal
pub over_times : (p : ℕ → Bool) (x : ℕ) → over p (λ n. x) ≡ x * over p (λ n. 1)
unfolding over
over_times p x = sum_times (λ i. p (suc i)) x 32000

-- sums over deals added up
pub over_swap : (p : ℕ → Bool) (f : ℕ → ℕ → ℕ) (m : ℕ) → sum m (λ k. over p (λ n. f k n)) ≡ over p (λ n. sum m (λ k. f k n))
unfolding over
over_swap p f m =
    sum_swap (λ k i. cond (p (suc i)) (f k (suc i)) 0) m 32000
    ∙ sum_same (λ i. sum m (λ k. cond (p (suc i)) (f k (suc i)) 0)) (λ i. cond (p (suc i)) (sum m (λ k. f k (suc i))) 0) 32000
    (λ i l. sum-cond (p (suc i)) (λ k. f k (suc i)) m)
