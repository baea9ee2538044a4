-- Low cards under others: what a list adds card by card, and why a fair table adds at most 546.
use mathlib.Core.Path.{◌≡◌, refl, sym, ap, ◌∙◌, subst}
use mathlib.Core.Bool.{Bool, true, false, cond}
use mathlib.Core.List.{List, [], ◌∷◌, ◌++◌}
use Prim.Native.Nat.{ℕ, zero, suc, ◌+◌, ◌-◌, ◌*◌, ◌/◌, ◌<◌, ◌≤◌}
use native.Mathlib.Nat.{le_trans, le_of_suc-le-suc}
use native.Mathlib.Numerals.{add-one, one-add}
use native.Mathlib.Omega.{arith}
use borrow.Author.Tests.{leb-true, eq-eqb}
use lib.Dec.{leb, eqb}
use lib.ListN.{length, get_or, drop, length-append, length-drop, drop_of_length-le}
use lib.Seq.{drop-cons}
use Rattle.base.specs.Words.{sum, all, occurs, listed, concat}
use Rattle.card.specs.Card.{is_card}
use Rattle.card.specs.Pack.{card_at, place_of}
use Rattle.base.proofs.Words.{first, second, concat_more, get_or-listed}
use Rattle.base.proofs.Sums.{sum_part, sum_most, sum_ones, sum-add, sum_same}
use Rattle.card.proofs.Codes.{card_is, at_place}
use Rattle.board.specs.Record.{column_at, room}
use Rattle.board.specs.Inner.{GoodColumns}
use Rattle.board.proofs.Soundness.{column_length}
use Rattle.features.specs.Features.{blocked_in, blocked_on}

-- ---- card by card

pub by_most : (t : Bool) (above : ℕ) → cond t above 0 ≤ above
by_most true above = omega arith
by_most false above = omega arith

-- the cards from place k on: the first of them, and the others
pub blocked_step : (l : List ℕ) (k : ℕ) → k < length l
    → blocked_in (drop k l) ≡ cond (leb (get_or l k 0 / 16) 3) (length l - (k + 1)) 0 + blocked_in (drop (k + 1) l)
unfolding blocked_in
blocked_step l k h =
    ap blocked_in (drop-cons l k 0 h ∙ ap (λ (n : ℕ). get_or l k 0 ∷ drop n l) (sym (add-one k)))
    ∙ ap (λ (n : ℕ). cond (leb (get_or l k 0 / 16) 3) n 0 + blocked_in (drop (k + 1) l)) (length-drop (k + 1) l)

pub blocked_end : (l : List ℕ) (k : ℕ) → length l ≤ k → blocked_in (drop k l) ≡ 0
unfolding blocked_in
blocked_end l k h = ap blocked_in (drop_of_length-le l h)

-- a short list adds little
blocked_little : (l : List ℕ) → length l ≤ room → blocked_in l ≤ room * length l
unfolding blocked_in
blocked_little [] h = omega arith
blocked_little (x ∷ l) h = let i = blocked_little l (omega arith) in let m = by_most (leb (x / 16) 3) (length l) in omega arith

-- ---- columns

module _ {counts tableau : List ℕ} (g : GoodColumns counts tableau) where
  pub column_short : (i : ℕ) → i < 8 → length (column_at counts tableau i) ≤ room
  column_short i h = let n = column_length g i h in let b = g.within i h in omega arith

  column_little : (i : ℕ) → i < 8 → blocked_in (column_at counts tableau i) ≤ 2704
  column_little i h = let c = column_short i h in let b = blocked_little (column_at counts tableau i) c in omega arith

  pub columns_little : sum 8 (λ i. blocked_in (column_at counts tableau i)) ≤ 21632
  unfolding sum
  columns_little = sum_most (λ i. blocked_in (column_at counts tableau i)) (λ i. 2704) 8 column_little

pub blocked_columns : (counts tableau : List ℕ) → sum 8 (λ k. blocked_in (column_at counts tableau k)) ≡ blocked_on (listed 8 (column_at counts tableau))
unfolding blocked_on
blocked_columns counts tableau =
    sum_same (λ k. blocked_in (column_at counts tableau k)) (λ k. blocked_in (get_or (listed 8 (column_at counts tableau)) k [])) 8
    (λ k h. ap blocked_in (sym (get_or-listed (column_at counts tableau) 8 k [] h)))

-- ---- joined lists

blocked_join : (l m : List ℕ) → blocked_in l + blocked_in m ≤ blocked_in (l ++ m)
unfolding blocked_in
blocked_join [] m = omega arith
blocked_join (x ∷ l) m = by_test (leb (x / 16) 3) (blocked_join l m)
  where
    by_test : (t : Bool) → blocked_in l + blocked_in m ≤ blocked_in (l ++ m) → cond t (length l) 0 + blocked_in l + blocked_in m ≤ cond t (length (l ++ m)) 0 + blocked_in (l ++ m)
    by_test true i = omega (arith, length-append l m)
    by_test false i = omega arith

pub blocked_concat : (f : ℕ → List ℕ) (n : ℕ) → sum n (λ i. blocked_in (f i)) ≤ blocked_in (concat (listed n f))
unfolding sum
blocked_concat f zero = omega arith
blocked_concat f (suc n) =
    let i = blocked_concat f n in
    let j = blocked_join (concat (listed n f)) (f n) in
    let e = ap (λ (m : ℕ). blocked_in (concat (listed m f))) (sym (add-one n)) ∙ ap blocked_in (concat_more f n) in
    omega arith

-- ---- so many low cards among so many cards add at most this

most : ℕ → ℕ → ℕ
most zero n = 0
most (suc k) n = (n - 1) + most k (n - 1)

most_up : (k k' n n' : ℕ) → k ≤ k' → n ≤ n' → most k n ≤ most k' n'
unfolding most
most_up zero k' n n' h i = omega arith
most_up (suc k) zero n n' h i = absurd (let z : ⊥ = omega arith in z)
most_up (suc k) (suc k') n n' h i = let r = most_up k k' (n - 1) (n' - 1) (le_of_suc-le-suc h) (omega arith) in omega arith

most_next : (k n : ℕ) → most (1 + k) (suc n) ≡ n + most k n
unfolding most
most_next k n = ap (λ (j : ℕ). most j (suc n)) (one-add k) ∙ ap (λ (m : ℕ). m + most k m) (let q : suc n - 1 ≡ n = omega arith in q)

low_in : List ℕ → ℕ
low_in [] = 0
low_in (x ∷ l) = cond (leb (x / 16) 3) 1 0 + low_in l

blocked_most : (l : List ℕ) → blocked_in l ≤ most (low_in l) (length l)
unfolding blocked_in low_in most
blocked_most [] = omega arith
blocked_most (x ∷ l) = by_test (leb (x / 16) 3) (blocked_most l)
  where
    by_test : (t : Bool) → blocked_in l ≤ most (low_in l) (length l) → cond t (length l) 0 + blocked_in l ≤ most (cond t 1 0 + low_in l) (suc (length l))
    by_test true i = subst (λ (n : ℕ). length l + blocked_in l ≤ n) (sym (most_next (low_in l) (length l))) (omega arith)
    by_test false i =
        let m : most (low_in l) (length l) ≤ most (cond {A = ℕ} false 1 0 + low_in l) (suc (length l)) = most_up (low_in l) (0 + low_in l) (length l) (suc (length l)) (omega arith) (omega arith) in
        omega arith

-- ---- the low cards are twelve

one_low : (x : ℕ) → is_card x ≡ true → cond (leb (x / 16) 3) 1 0 ≤ sum 12 (λ k. cond (eqb (card_at k) x) 1 0)
unfolding place_of
one_low x c = by_test (leb (x / 16) 3) refl
  where
    place : x / 16 ≤ 3 → place_of x < 12
    place h = let v = card_is x c in omega arith

    by_test : (t : Bool) → leb (x / 16) 3 ≡ t → cond t 1 0 ≤ sum 12 (λ k. cond (eqb (card_at k) x) 1 0)
    by_test false e = omega arith
    by_test true e =
        subst (λ (t : Bool). cond t 1 0 ≤ sum 12 (λ k. cond (eqb (card_at k) x) 1 0)) (eq-eqb (card_at (place_of x)) x (at_place x c))
        (sum_part (λ k. cond (eqb (card_at k) x) 1 0) 12 (place_of x) (place (leb-true (x / 16) 3 e)))

low_counted : (l : List ℕ) → all is_card l ≡ true → low_in l ≤ sum 12 (λ k. occurs (card_at k) l)
unfolding all occurs low_in
low_counted [] e = omega arith
low_counted (x ∷ l) e =
    let a = sum-add (λ k. cond (eqb (card_at k) x) 1 0) (λ k. occurs (card_at k) l) 12 in
    let b = one_low x (first (is_card x) (all is_card l) e) in
    let c = low_counted l (second (is_card x) (all is_card l) e) in
    omega arith

-- at most 52 cards of which none stands twice
pub blocked_546 : (l : List ℕ) → all is_card l ≡ true → ((x : ℕ) → occurs x l ≤ 1) → length l ≤ 52 → blocked_in l ≤ 546
unfolding most
blocked_546 l cards once long =
    let c = low_counted l cards in
    let o = sum_ones (λ k. occurs (card_at k) l) 12 (λ k h. once (card_at k)) in
    le_trans (blocked_most l) (most_up (low_in l) 12 (length l) 52 (omega arith) long)
