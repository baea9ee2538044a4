-- A sum over places under other numbers.
use mathlib.Core.Path.{◌≡◌, refl, sym, ap, ◌∙◌}
use mathlib.Core.Bool.{cond}
use Prim.Native.Nat.{ℕ, ◌<◌}
use borrow.Author.Tests.{eq-eqb, ne_eqb}
use lib.Dec.{eqb}
use Rattle.base.specs.Words.{sum}
use Rattle.base.proofs.Sums.{sum_same, sum_one, sum_swap}
use Rattle.board.specs.Renumbered.{Renumbers}

module _ {n : ℕ} {p q : ℕ → ℕ} (r : Renumbers n p q) where
  -- term j where place i goes, else nothing
  at_place : (ℕ → ℕ) → ℕ → ℕ → ℕ
  at_place f i j = cond (eqb (p i) j) (f j) 0

  -- the terms of a sum may be taken in any order
  pub sum-renumbered : (f : ℕ → ℕ) → sum n (λ i. f (p i)) ≡ sum n f
  unfolding at_place
  sum-renumbered f =
      sum_same (λ i. f (p i)) (λ i. sum n (at_place f i)) n (λ i h. sym (by_row i h))
      ∙ sum_swap (at_place f) n n
      ∙ sum_same (λ j. sum n (λ i. at_place f i j)) f n by_column
    where
      by_row : (i : ℕ) → i < n → sum n (at_place f i) ≡ f (p i)
      by_row i h =
          sum_one (at_place f i) n (p i) (r.within i h) (λ k l d. rw (ne_eqb (p i) k (λ e. d (sym e))))
          ∙ rw (eq-eqb (p i) (p i) refl)

      by_column : (j : ℕ) → j < n → sum n (λ i. at_place f i j) ≡ f j
      by_column j h =
          sum_one (λ i. at_place f i j) n (q j) (r.again j h) (λ k l d. rw (ne_eqb (p k) j (λ e. d (sym (r.back k l) ∙ ap q e))))
          ∙ rw (eq-eqb (p (q j)) j (r.forth j h))
