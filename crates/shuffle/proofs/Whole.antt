-- The deck of every number is the whole pack: a draw loses no card and makes none.
use mathlib.Core.Path.{◌≡◌, refl, sym, ap, ◌∙◌}
use mathlib.Core.Bool.{true, cond}
use mathlib.Core.List.{List}
use Prim.Native.Nat.{ℕ, zero, suc, ◌+◌, ◌%◌, ◌<◌, ◌≤◌}
use native.Mathlib.Nat.{mod-lt, zero-lt-suc}
use native.Mathlib.Omega.{arith}
use native.Mathlib.Decide.{ℕ_discrete}
use borrow.Author.Tests.{eq-eqb, ne_eqb}
use lib.Dec.{eqb}
use lib.ListN.{length, get_or, set, length-set}
use lib.Seq.{get_or-set_same, get_or-set_other}
use Rattle.base.specs.Words.{all, occurs, listed, sum}
use Rattle.base.proofs.Words.{both, length-listed, get_or-listed}
use Rattle.base.proofs.Sums.{sum_same, sum_one, sum_changed}
use Rattle.card.specs.Card.{is_card}
use Rattle.card.specs.Pack.{card_at, place_of}
use Rattle.card.proofs.Codes.{card_at_lem, place_at}
use Rattle.shuffle.specs.Shuffle.{stepped, drawn, dealt_from, deck_of}

-- the law about a draw: the card at place p and the n cards then left, the last put in its place, are the cards that were left
one_draw : (f g : ℕ → ℕ) (n p : ℕ) → p < suc n → ((k : ℕ) → k < n → (k ≡ p → ⊥) → g k ≡ f k) → (p < n → g p ≡ f n) → f p + sum n g ≡ sum (suc n) f
unfolding sum
one_draw f g n p h others put = by_place (ℕ_discrete p n)
  where
    by_place : Dec (p ≡ n) → f p + sum n g ≡ sum n f + f n
    by_place (yes e) = let s = sum_same g f n (λ k l. others k l (omega arith)) in omega (arith, ap f e)
    by_place (no d) = let c = sum_changed g f n p (omega arith) others in omega (arith, put (omega arith))

-- one for the place of a pack at which x lies
abbrev here : ℕ → List ℕ → ℕ → ℕ
here x pack k = cond (eqb x (get_or pack k 0)) 1 0

-- each card is dealt as often as it lies among the n cards left
all-dealt : (x n state : ℕ) (pack : List ℕ) → n ≤ length pack → occurs x (dealt_from n state pack) ≡ sum n (here x pack)
unfolding dealt_from occurs sum
all-dealt x zero state pack h = refl
all-dealt x (suc n) state pack h =
    let place : ℕ = drawn (stepped state) % suc n in
    let last : ℕ = get_or pack n 0 in
    let rest = all-dealt x n (stepped state) (set pack place last) (let l = length-set pack place last in omega arith) in
    let below : place < suc n = mod-lt (drawn (stepped state)) (zero-lt-suc n) in
    let one = one_draw (here x pack) (here x (set pack place last)) n place below
    (λ k l d. ap (λ (y : ℕ). cond (eqb x y) 1 0) (get_or-set_other pack place k last 0 d))
    (λ l. ap (λ (y : ℕ). cond (eqb x y) 1 0) (get_or-set_same pack place last 0 (omega arith))) in
    omega arith

-- what holds of the cards left holds of the cards dealt
only_dealt : (n state : ℕ) (pack : List ℕ) → n ≤ length pack → ((k : ℕ) → k < n → is_card (get_or pack k 0) ≡ true) → all is_card (dealt_from n state pack) ≡ true
unfolding dealt_from all
only_dealt zero state pack h cards = refl
only_dealt (suc n) state pack h cards =
    let place : ℕ = drawn (stepped state) % suc n in
    let last : ℕ = get_or pack n 0 in
    both (cards place (mod-lt (drawn (stepped state)) (zero-lt-suc n)))
    (only_dealt n (stepped state) (set pack place last) (let l = length-set pack place last in omega arith) (λ k l. kept place k l (ℕ_discrete k place)))
  where
    kept : (place k : ℕ) → k < n → Dec (k ≡ place) → is_card (get_or (set pack place (get_or pack n 0)) k 0) ≡ true
    kept place k l (yes e) =
        ap (λ (j : ℕ). is_card (get_or (set pack place (get_or pack n 0)) j 0)) e
        ∙ ap is_card (get_or-set_same pack place (get_or pack n 0) 0 (omega arith)) ∙ cards n (omega arith)
    kept place k l (no d) = ap is_card (get_or-set_other pack place k (get_or pack n 0) 0 d) ∙ cards k (omega arith)

as_many : (n state : ℕ) (pack : List ℕ) → length (dealt_from n state pack) ≡ n
unfolding dealt_from
as_many zero state pack = refl
as_many (suc n) state pack =
    let place : ℕ = drawn (stepped state) % suc n in
    ap suc (as_many n (stepped state) (set pack place (get_or pack n 0)))

module _ (number : ℕ) where
  pub fifty_two : length (deck_of number) ≡ 52
  unfolding deck_of
  fifty_two = as_many 52 number (listed 52 card_at)

  pub only_cards_lem : all is_card (deck_of number) ≡ true
  unfolding deck_of
  only_cards_lem =
      only_dealt 52 number (listed 52 card_at) (let l = length-listed card_at 52 in omega arith)
      (λ k h. ap is_card (get_or-listed card_at 52 k 0 h) ∙ card_at_lem k h)

  -- each of the 52 cards once
  pub each_once : (k : ℕ) → k < 52 → occurs (card_at k) (deck_of number) ≡ 1
  unfolding deck_of
  each_once k h =
      all-dealt (card_at k) 52 number (listed 52 card_at) (let l = length-listed card_at 52 in omega arith)
      ∙ sum_one (here (card_at k) (listed 52 card_at)) 52 k h
      (λ j l d. rw (get_or-listed card_at 52 j 0 l, ne_eqb (card_at k) (card_at j) (λ q. d (sym (place_at j) ∙ ap place_of (sym q) ∙ place_at k))))
      ∙ rw (get_or-listed card_at 52 k 0 h, eq-eqb (card_at k) (card_at k) refl)
