-- Counting cards: a list of cards is as long as its cards counted one by one, so 52 different cards are the whole pack.
use mathlib.Core.Path.{◌≡◌, refl, sym, ap, ◌∙◌}
use mathlib.Core.Bool.{true, cond}
use mathlib.Core.List.{List, [], ◌∷◌}
use Prim.Native.Nat.{ℕ, ◌<◌, ◌≤◌}
use native.Mathlib.Omega.{arith}
use borrow.Author.Tests.{eq-eqb, ne_eqb}
use lib.Dec.{eqb}
use lib.ListN.{length}
use Rattle.base.specs.Words.{all, occurs, sum}
use Rattle.card.specs.Card.{is_card}
use Rattle.card.specs.Pack.{card_at, place_of}
use Rattle.base.proofs.Words.{first, second}
use Rattle.base.proofs.Sums.{sum-add, sum_one, sum-zero, sum_ones, sum_full}
use Rattle.card.proofs.Codes.{at_place, place_at, place_below_lem}
use Rattle.board.specs.Verdict.{none_twice}
use Rattle.board.proofs.Marks.{none_twice_at}

-- a card is one card of the pack
one_card : (x : ℕ) → is_card x ≡ true → sum 52 (λ k. cond (eqb (card_at k) x) 1 0) ≡ 1
one_card x e =
    sum_one (λ k. cond (eqb (card_at k) x) 1 0) 52 (place_of x) (place_below_lem x e)
    (λ k h d. rw (ne_eqb (card_at k) x (λ q. d (sym (place_at k) ∙ ap place_of q))))
    ∙ rw (eq-eqb (card_at (place_of x)) x (at_place x e))

pub counted : (l : List ℕ) → all is_card l ≡ true → sum 52 (λ k. occurs (card_at k) l) ≡ length l
unfolding all occurs
counted [] e = sum-zero (λ k. 0) 52 (λ k h. refl)
counted (x ∷ l) e =
    sum-add (λ k. cond (eqb (card_at k) x) 1 0) (λ k. occurs (card_at k) l) 52
    ∙ (let a = one_card x (first (is_card x) (all is_card l) e) in
    let b = counted l (second (is_card x) (all is_card l) e) in
    omega arith)

module _ (l : List ℕ) (cards : all is_card l ≡ true) (once : none_twice l ≡ true) where
  -- cards that are all different are at most 52
  pub at_most_52 : length l ≤ 52
  at_most_52 = let c = counted l cards in let s = sum_ones (λ k. occurs (card_at k) l) 52 (none_twice_at l once) in omega arith

  -- and 52 of them are each card once
  pub whole_pack : length l ≡ 52 → (k : ℕ) → k < 52 → occurs (card_at k) l ≡ 1
  whole_pack full = sum_full (λ k. occurs (card_at k) l) 52 (none_twice_at l once) (counted l cards ∙ full)
