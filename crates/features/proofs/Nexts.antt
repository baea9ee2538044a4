-- At most four cards can go home at once: each is the next of its suit, and lies once on the table.
use mathlib.Core.Path.{◌≡◌, refl, sym, ap, ◌∙◌}
use mathlib.Core.Bool.{Bool, true, false, cond}
use mathlib.Core.List.{List, [], ◌∷◌, ◌++◌}
use Prim.Native.Nat.{ℕ, zero, suc, ◌+◌, ◌*◌, ◌/◌, ◌%◌, ◌<◌, ◌≤◌}
use native.Mathlib.Nat.{le_trans, le_of_suc-le-suc}
use native.Mathlib.Omega.{arith}
use borrow.Author.Tests.{eqb-true}
use lib.ListN.{length, get_or}
use Rattle.base.specs.Words.{sum, all, occurs, listed, concat}
use Rattle.card.specs.Card.{is_card}
use Rattle.card.specs.Pack.{card_at, place_of}
use Rattle.base.proofs.Words.{first, second, true_or_not, all_at, every_at, all-concat, occurs_here, occurs_other, occurs_none, occurs-append, occurs-concat}
use Rattle.base.proofs.Sums.{sum_most, sum_part, sum_swap, sum_ones, sum-add}
use Rattle.card.proofs.Codes.{card_is, at_place, place_below_lem}
use Rattle.rules.specs.Fit.{home_takes}
use Rattle.features.specs.Features.{last_goes_home}
use Rattle.features.proofs.Homing.{last_none, last_some}

occurs-there : (l : List ℕ) (k : ℕ) → k < length l → 1 ≤ occurs (get_or l k 0) l
occurs-there [] k h = absurd (let z : ⊥ = omega arith in z)
occurs-there (x ∷ l) zero h = omega (arith, occurs_here x x l refl)
occurs-there (x ∷ l) (suc k) h =
    le_trans (occurs-there l k (le_of_suc-le-suc h)) (let o = occurs-append (get_or l k 0) (x ∷ []) l in omega arith)

-- among cards, no other number stands
occurs_no_card : (x : ℕ) (l : List ℕ) → all is_card l ≡ true → is_card x ≡ false → occurs x l ≡ 0
unfolding all
occurs_no_card x [] e d = occurs_none x
occurs_no_card x (y ∷ l) e d =
    occurs_other x y l (λ q. true_or_not (is_card x) (ap is_card q ∙ first (is_card y) (all is_card l) e) d)
    ∙ occurs_no_card x l (second (is_card y) (all is_card l) e) d

-- a number stands at most once where each card stands once
pub at_most_once : (l : List ℕ) → all is_card l ≡ true → ((k : ℕ) → k < 52 → occurs (card_at k) l ≡ 1) → (x : ℕ) → occurs x l ≤ 1
at_most_once l cards once x = by_test (is_card x) refl
  where
    by_test : (t : Bool) → is_card x ≡ t → occurs x l ≤ 1
    by_test true e = omega (arith, once (place_of x) (place_below_lem x e), ap (λ (y : ℕ). occurs y l) (at_place x e))
    by_test false e = omega (arith, occurs_no_card x l cards e)

module _ (foundation : List ℕ) where
  -- the next card of a suit
  abbrev next : ℕ → ℕ
  next s = (get_or foundation s 0 + 1) * 16 + s

  next_home_lem : (x : ℕ) → is_card x ≡ true → home_takes foundation x ≡ true → next (x % 16) ≡ x
  unfolding home_takes
  next_home_lem x c e = let v = card_is x c in omega (arith, eqb-true (x / 16) (get_or foundation (x % 16) 0 + 1) e)

  last_next : (l : List ℕ) (n : ℕ) → length l ≡ suc n → all is_card l ≡ true → last_goes_home foundation l ≡ true → 1 ≤ sum 4 (λ s. occurs (next s) l)
  last_next l n m cards e =
      let x : ℕ = get_or l n 0 in
      let c = all_at is_card l cards n (omega arith) in
      let q = ap (λ (y : ℕ). occurs y l) (next_home_lem x c (sym (last_some foundation l n m) ∙ e)) in
      let o = occurs-there l n (omega arith) in
      let p = sum_part (λ s. occurs (next s) l) 4 (x % 16) (card_is x c).suit in
      omega arith

  counts_next : (l : List ℕ) → all is_card l ≡ true → cond (last_goes_home foundation l) 1 0 ≤ sum 4 (λ s. occurs (next s) l)
  counts_next l cards = by_test (last_goes_home foundation l) refl (length l) refl
    where
      by_test : (t : Bool) → last_goes_home foundation l ≡ t → (n : ℕ) → length l ≡ n → cond t 1 0 ≤ sum 4 (λ s. occurs (next s) l)
      by_test false e n m = omega arith
      by_test true e zero m = true_or_not (last_goes_home foundation l) e (last_none foundation l m)
      by_test true e (suc n) m = last_next l n m cards e

  -- over some lists of cards, each counted by its last card
  pub lists_next : (f : ℕ → List ℕ) (n : ℕ) → all is_card (concat (listed n f)) ≡ true
      → sum n (λ i. cond (last_goes_home foundation (f i)) 1 0) ≤ sum 4 (λ s. occurs (next s) (concat (listed n f)))
  lists_next f n cards =
      let a = sum_most (λ i. cond (last_goes_home foundation (f i)) 1 0) (λ i. sum 4 (λ s. occurs (next s) (f i))) n
      (λ i h. counts_next (f i) (every_at (λ k. all is_card (f k)) n (sym (all-concat is_card f n) ∙ cards) i h)) in
      let b = sum_swap (λ i s. occurs (next s) (f i)) n 4 in
      let c = sum_most (λ s. sum n (λ i. occurs (next s) (f i))) (λ s. occurs (next s) (concat (listed n f))) 4
      (λ s h. omega (arith, occurs-concat (next s) f n)) in
      omega arith

  -- two lists of cards in which no number stands twice
  pub four_next : (l m : List ℕ) → ((x : ℕ) → occurs x (l ++ m) ≤ 1)
      → sum 4 (λ s. occurs (next s) l) + sum 4 (λ s. occurs (next s) m) ≤ 4
  four_next l m once =
      let a = sum-add (λ s. occurs (next s) l) (λ s. occurs (next s) m) 4 in
      let b = sum_ones (λ s. occurs (next s) l + occurs (next s) m) 4 (λ s h. omega (arith, once (next s), occurs-append (next s) l m)) in
      omega arith
