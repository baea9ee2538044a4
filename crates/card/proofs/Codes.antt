-- Codes and cards are inverse to each other, and the places 0 to 51 of the pack are exactly the codes that are cards.
use mathlib.Core.Path.{◌≡◌, refl, ap, ap₂, ◌∙◌}
use mathlib.Core.Bool.{true}
use Prim.Native.Nat.{ℕ, zero, suc, ◌+◌, ◌*◌, ◌/◌, ◌%◌, ◌<◌, ◌≤◌}
use native.Mathlib.Omega.{arith}
use borrow.Author.Tests.{leb-true, ltb-true, le-leb, lt-ltb}
use lib.Dec.{leb, ltb}
use Rattle.card.specs.declared.Suit.{Suit}
use Rattle.card.specs.declared.Suit.TheVariants.{Club, Diamond, Heart, Spade}
use Rattle.card.specs.declared.Card.{Card}
use Rattle.card.specs.Suit.{suit_number, suit_at}
use Rattle.card.specs.Card.{is_value, is_card, code_of, card_of}
use Rattle.card.specs.Pack.{card_at, place_of}
use Rattle.base.proofs.Words.{both, first, second}

-- ---- suits

pub suit_below : (s : Suit) → suit_number s < 4
suit_below Club = omega arith
suit_below Diamond = omega arith
suit_below Heart = omega arith
suit_below Spade = omega arith

pub suit_at_number : (s : Suit) → suit_at (suit_number s) ≡ s
unfolding suit_at
suit_at_number Club = refl
suit_at_number Diamond = refl
suit_at_number Heart = refl
suit_at_number Spade = refl

pub number_suit_at : (n : ℕ) → n < 4 → suit_number (suit_at n) ≡ n
unfolding suit_at
number_suit_at zero h = refl
number_suit_at (suc zero) h = refl
number_suit_at (suc (suc zero)) h = refl
number_suit_at (suc (suc (suc zero))) h = refl
number_suit_at (suc (suc (suc (suc n)))) h = omega arith

-- ---- values and codes as numbers

pub record Value (v : ℕ) : Type 0 where
  pub low : 1 ≤ v
  pub high : v ≤ 13

pub value_is : (v : ℕ) → is_value v ≡ true → Value v
unfolding is_value
value_is v e = record { low = leb-true 1 v (first (leb 1 v) (leb v 13) e); high = leb-true v 13 (second (leb 1 v) (leb v 13) e) }

pub is_value_lem : (v : ℕ) → 1 ≤ v → v ≤ 13 → is_value v ≡ true
unfolding is_value
is_value_lem v l h = both (le-leb 1 v l) (le-leb v 13 h)

pub record Coded (x : ℕ) : Type 0 where
  pub low : 1 ≤ x / 16
  pub high : x / 16 ≤ 13
  pub suit : x % 16 < 4

pub card_is : (x : ℕ) → is_card x ≡ true → Coded x
unfolding is_card
card_is x e =
    let v = value_is (x / 16) (first (is_value (x / 16)) (ltb (x % 16) 4) e) in
    record { low = v.low; high = v.high; suit = ltb-true (x % 16) 4 (second (is_value (x / 16)) (ltb (x % 16) 4) e) }

pub is_card_lem : (x : ℕ) → 1 ≤ x / 16 → x / 16 ≤ 13 → x % 16 < 4 → is_card x ≡ true
unfolding is_card
is_card_lem x l h s = both (is_value_lem (x / 16) l h) (lt-ltb (x % 16) 4 s)

-- ---- code and card are inverse

pub code_card : (x : ℕ) → is_card x ≡ true → code_of (card_of x) ≡ x
unfolding code_of card_of
code_card x e = let c = card_is x e in omega (arith, number_suit_at (x % 16) c.suit)

pub card_code : (c : Card) → card_of (code_of c) ≡ c
unfolding code_of card_of
card_code c =
    let s = suit_below c.suit in
    ap₂ (λ (n v : ℕ). record { suit = suit_at n; value = v })
    (omega arith) (omega arith)
    ∙ ap (λ (t : Suit). record { suit = t; value = c.value }) (suit_at_number c.suit)

pub code_is_card : (c : Card) → is_value c.value ≡ true → is_card (code_of c) ≡ true
unfolding code_of
code_is_card c e =
    let v = value_is c.value e in
    let s = suit_below c.suit in
    is_card_lem (c.value * 16 + suit_number c.suit) (omega arith) (omega arith) (omega arith)

pub value_of_card : (x : ℕ) → is_card x ≡ true → is_value (card_of x).value ≡ true
unfolding card_of
value_of_card x e = let c = card_is x e in is_value_lem (x / 16) c.low c.high

-- the code of the card of a suit after v others
pub code_in_suit : (suit v : ℕ) → suit < 4 → v < 13 → is_card ((v + 1) * 16 + suit) ≡ true
code_in_suit suit v h b = is_card_lem ((v + 1) * 16 + suit) (omega arith) (omega arith) (omega arith)

-- ---- exactly 52 codes are cards: the pack's places and the codes are one to one

pub card_at_lem : (k : ℕ) → k < 52 → is_card (card_at k) ≡ true
unfolding card_at
card_at_lem k h = is_card_lem ((k / 4 + 1) * 16 + k % 4) (omega arith) (omega arith) (omega arith)

pub place_below_lem : (x : ℕ) → is_card x ≡ true → place_of x < 52
unfolding place_of
place_below_lem x e = let c = card_is x e in omega arith

pub place_at : (k : ℕ) → place_of (card_at k) ≡ k
unfolding place_of card_at
place_at k = omega arith

pub at_place : (x : ℕ) → is_card x ≡ true → card_at (place_of x) ≡ x
unfolding place_of card_at
at_place x e = let c = card_is x e in omega arith
