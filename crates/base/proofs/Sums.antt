-- Laws of sums: adding, swapping, and what a full sum of ones says.
use mathlib.Core.Path.{◌≡◌, refl, sym, ap, ◌∙◌}
use Prim.Native.Nat.{ℕ, zero, suc, ◌+◌, ◌<◌, ◌≤◌}
use native.Mathlib.Nat.{not-suc-le-zero}
use native.Mathlib.Numerals.{add-one}
use native.Mathlib.Omega.{arith}
use native.Mathlib.Decide.{ℕ_discrete}
use borrow.Author.Count.{below_more}
use Rattle.base.specs.Words.{sum}

pub sum_none : (f : ℕ → ℕ) → sum 0 f ≡ 0
unfolding sum
sum_none f = refl

pub sum_next : (f : ℕ → ℕ) (i : ℕ) → sum (i + 1) f ≡ sum i f + f i
unfolding sum
sum_next f i = rw add-one refl

-- the first term apart
pub sum_first : (f : ℕ → ℕ) (m : ℕ) → sum (suc m) f ≡ f 0 + sum m (λ k. f (suc k))
unfolding sum
sum_first f zero = omega arith
sum_first f (suc m) = let e = sum_first f m in omega arith

pub sum_same : (f g : ℕ → ℕ) (n : ℕ) → ((k : ℕ) → k < n → f k ≡ g k) → sum n f ≡ sum n g
unfolding sum
sum_same f g zero h = refl
sum_same f g (suc n) h = let e = sum_same f g n (λ k l. h k (omega arith)) in omega (arith, h n (omega arith))

pub sum_most : (f g : ℕ → ℕ) (n : ℕ) → ((k : ℕ) → k < n → f k ≤ g k) → sum n f ≤ sum n g
unfolding sum
sum_most f g zero h = omega arith
sum_most f g (suc n) h = omega (arith, sum_most f g n (λ k l. h k (omega arith)), h n (omega arith))

pub sum-add : (f g : ℕ → ℕ) (n : ℕ) → sum n (λ k. f k + g k) ≡ sum n f + sum n g
unfolding sum
sum-add f g zero = refl
sum-add f g (suc n) = let e = sum-add f g n in omega arith

pub sum-zero : (f : ℕ → ℕ) (n : ℕ) → ((k : ℕ) → k < n → f k ≡ 0) → sum n f ≡ 0
unfolding sum
sum-zero f zero h = refl
sum-zero f (suc n) h = omega (arith, sum-zero f n (λ k l. h k (omega arith)), h n (omega arith))

-- one term apart, the others nothing
pub sum_one : (f : ℕ → ℕ) (n j : ℕ) → j < n → ((k : ℕ) → k < n → (k ≡ j → ⊥) → f k ≡ 0) → sum n f ≡ f j
unfolding sum
sum_one f zero j l h = absurd (not-suc-le-zero l)
sum_one f (suc n) j l h = here_or_before (sum_one f n j) (ℕ_discrete j n)
  where
    here_or_before : (j < n → ((k : ℕ) → k < n → (k ≡ j → ⊥) → f k ≡ 0) → sum n f ≡ f j) → Dec (j ≡ n) → sum n f + f n ≡ f j
    here_or_before before (yes e) = omega (arith, ap f e, sum-zero f n (λ k m. h k (omega arith) (omega arith)))
    here_or_before before (no e) = omega (arith, before (omega arith) (λ k m q. h k (omega arith) q), h n (omega arith) (λ q. e (sym q)))

-- a sum of which one term changes
pub sum_changed : (f g : ℕ → ℕ) (n j : ℕ) → j < n → ((k : ℕ) → k < n → (k ≡ j → ⊥) → f k ≡ g k) → sum n f + g j ≡ sum n g + f j
unfolding sum
sum_changed f g zero j h e = absurd (not-suc-le-zero h)
sum_changed f g (suc n) j h e = here_or_before (sum_changed f g n j) (ℕ_discrete j n)
  where
    here_or_before : (j < n → ((k : ℕ) → k < n → (k ≡ j → ⊥) → f k ≡ g k) → sum n f + g j ≡ sum n g + f j) → Dec (j ≡ n)
        → sum n f + f n + g j ≡ sum n g + g n + f j
    here_or_before before (yes q) =
        let s = sum_same f g n (λ k l. e k (omega arith) (omega arith)) in
        omega (arith, ap f q, ap g q)
    here_or_before before (no d) =
        let b = before (omega arith) (λ k l c. e k (omega arith) c) in
        omega (arith, e n (omega arith) (λ q. d (sym q)))

-- a term is part of its sum
pub sum_part : (f : ℕ → ℕ) (n j : ℕ) → j < n → f j ≤ sum n f
unfolding sum
sum_part f zero j h = absurd (not-suc-le-zero h)
sum_part f (suc n) j h =
    below_more (λ (k : ℕ). f k ≤ sum n f + f n) n (λ k l. let e = sum_part f n k l in omega arith) (omega arith) j (omega arith)

pub sum_swap : (f : ℕ → ℕ → ℕ) (n m : ℕ) → sum n (λ i. sum m (λ j. f i j)) ≡ sum m (λ j. sum n (λ i. f i j))
unfolding sum
sum_swap f zero m = sym (sum-zero (λ j. 0) m (λ k l. refl))
sum_swap f (suc n) m = ap (λ (x : ℕ). x + sum m (λ j. f n j)) (sum_swap f n m) ∙ sym (sum-add (λ j. sum n (λ i. f i j)) (λ j. f n j) m)

-- terms of at most one add up to at most their number, and to no less only if each is one
pub sum_ones : (f : ℕ → ℕ) (n : ℕ) → ((k : ℕ) → k < n → f k ≤ 1) → sum n f ≤ n
unfolding sum
sum_ones f zero h = omega arith
sum_ones f (suc n) h = omega (arith, sum_ones f n (λ k l. h k (omega arith)), h n (omega arith))

pub sum_full : (f : ℕ → ℕ) (n : ℕ) → ((k : ℕ) → k < n → f k ≤ 1) → sum n f ≡ n → (k : ℕ) → k < n → f k ≡ 1
unfolding sum
sum_full f zero h e k l = absurd (not-suc-le-zero l)
sum_full f (suc n) h e k l =
    let b = sum_ones f n (λ j m. h j (omega arith)) in
    below_more (λ (j : ℕ). f j ≡ 1) n (sum_full f n (λ j m. h j (omega arith)) (omega (arith, h n (omega arith))))
    (omega (arith, h n (omega arith))) k (omega arith)

pub sum-all : (f : ℕ → ℕ) (n : ℕ) → ((k : ℕ) → k < n → f k ≡ 1) → sum n f ≡ n
unfolding sum
sum-all f zero h = refl
sum-all f (suc n) h = omega (arith, sum-all f n (λ k l. h k (omega arith)), h n (omega arith))
