-- A step read back gives its move and its cost.
use mathlib.Core.Path.{◌≡◌, refl, sym, ap, ◌∙◌, subst}
use mathlib.Core.Bool.{true}
use mathlib.Core.List.{List, [], ◌∷◌}
use Prim.Native.Nat.{ℕ, ◌+◌, ◌*◌, ◌/◌, ◌%◌, ◌<◌}
use native.Mathlib.Omega.{arith}
use borrow.Author.Tests.{ltb-true}
use lib.ListN.{get_or}
use Rattle.card.specs.Suit.{suit_number}
use Rattle.card.specs.Card.{code_of, is_value}
use Rattle.card.specs.declared.Card.{Card}
use Rattle.card.proofs.Codes.{suit_below, value_is}
use Rattle.board.specs.Table.{Table}
use Rattle.moves.specs.Move.{is_place, from, to, count, card, sayable}
use Rattle.moves.specs.declared.Place.{Place}
use Rattle.moves.specs.declared.Place.TheVariants.{Column as column, Cell as cell, Home as home}
use Rattle.moves.specs.Record.{possible, move_of, record_of}
use Rattle.moves.specs.Play.{allowed}
use Rattle.moves.specs.declared.Move.{Move}
use Rattle.moves.specs.declared.Move.TheVariants.{TableauToTableau, TableauToFoundation, TableauToFreeCell, FreeCellToTableau, FreeCellToFoundation, FoundationToTableau}
use Rattle.moves.proofs.Records.{place_number, said_from, said_to, said_value}
use Rattle.moves.proofs.Saying.{move_of_record, possible_said, said_of_record}
use Rattle.candidates.specs.Inner.{Playable}
use Rattle.nodes.specs.Step.{Small, step_of, step_word, record_in, move_in, cost_in}
use Rattle.nodes.specs.Nodes.{Makes}

-- ---- five small numbers and a cost

module _ (a b c d e cost : ℕ) (small : Small (a ∷ b ∷ c ∷ d ∷ e ∷ [])) (h : cost < 256) where
  abbrev r : List ℕ
  r = a ∷ b ∷ c ∷ d ∷ e ∷ []

  digits_back : record_in (step_of r cost) ≡ r
  unfolding step_of record_in
  digits_back =
      let hb = small.from in
      let hc = small.to in
      let hd = small.count in
      let he = small.code in
      let x1 : step_of r cost / 256 ≡ (((a * 8 + b) * 8 + c) * 16 + d) * 256 + e = omega arith in
      let x2 : step_of r cost / 65536 ≡ ((a * 8 + b) * 8 + c) * 16 + d = omega arith in
      let x3 : step_of r cost / 1048576 ≡ (a * 8 + b) * 8 + c = omega arith in
      let x4 : step_of r cost / 8388608 ≡ a * 8 + b = omega arith in
      let y0 : step_of r cost / 67108864 ≡ a = omega arith in
      let y1 : step_of r cost / 8388608 % 8 ≡ b = omega arith in
      let y2 : step_of r cost / 1048576 % 8 ≡ c = omega arith in
      let y3 : step_of r cost / 65536 % 16 ≡ d = omega arith in
      let y4 : step_of r cost / 256 % 256 ≡ e = omega arith in
      cc

  cost_back : cost_in (step_of r cost) ≡ cost
  unfolding step_of cost_in
  cost_back = omega arith

-- ---- a move that a record can say, of fewer than 16 cards

code_byte : (c : Card) → is_value c.value ≡ true → code_of c < 256
unfolding code_of
code_byte c e = let v = value_is c.value e in let s = suit_below c.suit in omega (arith, v.high)

place_small : (p : Place) → is_place p ≡ true → place_number p < 8
place_small (column i) e = ltb-true i 8 e
place_small (cell i) e = let h = ltb-true i 4 e in omega arith
place_small (home s) e = let h = ltb-true s 4 e in omega arith

-- five numbers, whatever the kind
by_numbers : (P : List ℕ → Type 0) → ((a b c d e : ℕ) → P (a ∷ b ∷ c ∷ d ∷ e ∷ [])) → (m : Move) → P (record_of m)
unfolding record_of
by_numbers P f (TableauToTableau s d n c) = f 1 s d n (code_of c)
by_numbers P f (TableauToFoundation s c) = f 2 s (suit_number c.suit) 1 (code_of c)
by_numbers P f (TableauToFreeCell s i c) = f 3 s i 1 (code_of c)
by_numbers P f (FreeCellToTableau i d c) = f 4 i d 1 (code_of c)
by_numbers P f (FreeCellToFoundation i c) = f 5 i (suit_number c.suit) 1 (code_of c)
by_numbers P f (FoundationToTableau s d c) = f 6 (suit_number s) d 1 (code_of c)

-- the numbers of a record are the kind, the two places, the count and the code
record Numbers (m : Move) (r : List ℕ) : Type 0 where
  kind : get_or r 0 0 < 8
  source : get_or r 1 0 ≡ place_number (from m)
  target : get_or r 2 0 ≡ place_number (to m)
  many : get_or r 3 0 ≡ count m
  code : get_or r 4 0 ≡ code_of (card m)

numbers : (m : Move) → Numbers m (record_of m)
unfolding record_of
numbers (TableauToTableau s d n c) = record { kind = omega arith; source = refl; target = refl; many = refl; code = refl }
numbers (TableauToFoundation s c) = record { kind = omega arith; source = refl; target = refl; many = refl; code = refl }
numbers (TableauToFreeCell s i c) = record { kind = omega arith; source = refl; target = refl; many = refl; code = refl }
numbers (FreeCellToTableau i d c) = record { kind = omega arith; source = refl; target = refl; many = refl; code = refl }
numbers (FreeCellToFoundation i c) = record { kind = omega arith; source = refl; target = refl; many = refl; code = refl }
numbers (FoundationToTableau s d c) = record { kind = omega arith; source = refl; target = refl; many = refl; code = refl }

pub small_record : (m : Move) → sayable m ≡ true → count m < 16 → Small (record_of m)
small_record m e few =
    let n = numbers m in
    record {
      kind = n.kind;
      from = let q = n.source in let h = place_small (from m) (said_from m e) in omega arith;
      to = let q = n.target in let h = place_small (to m) (said_to m e) in omega arith;
      count = let q = n.many in omega arith;
      code = let q = n.code in let h = code_byte (card m) (said_value m e) in omega arith;
    }

module _ (m : Move) (cost : ℕ) (e : sayable m ≡ true) (few : count m < 16) (h : cost < 256) where
  record_back : record_in (step_word m cost) ≡ record_of m
  unfolding step_word
  record_back =
      by_numbers (λ r. Small r → record_in (step_of r cost) ≡ r) (λ a b c d x s. digits_back a b c d x cost s h) m (small_record m e few)

  -- the move is read back
  pub step_move : move_in (step_word m cost) ≡ m
  unfolding move_in
  step_move = ap move_of record_back ∙ move_of_record m

  -- and the cost
  pub step_cost : cost_in (step_word m cost) ≡ cost
  unfolding step_word
  step_cost = by_numbers (λ r. Small r → cost_in (step_of r cost) ≡ cost) (λ a b c d x s. cost_back a b c d x cost s h) m (small_record m e few)

  pub step_told : possible (record_in (step_word m cost)) ≡ true
  step_told = ap possible record_back ∙ possible_said m e

-- ---- a step that can be made is a move that can be played, and the other way round

pub makes_playable : {t : Table} {w : ℕ} → Makes t w → Playable t (move_in w)
unfolding move_in record_in
makes_playable {t} {w} k =
    record { said = said_of_record (record_in w) (omega arith) k.told; allows = k.allows }

pub playable_makes : {t : Table} {m : Move} {cost : ℕ} → Playable t m → count m < 16 → cost < 256 → Makes t (step_word m cost)
playable_makes {t} {m} {cost} p few h =
    record {
      told = step_told m cost p.said few h;
      allows = ap (allowed t) (step_move m cost p.said few h) ∙ p.allows;
    }

-- ---- in code: the five bytes of a move

module _ (m : Move) {bytes : List ℕ} (e : bytes ≡ record_of m) {kind from to many code : ℕ}
    (a : kind ≡ get_or bytes 0 0) (b : from ≡ get_or bytes 1 0) (c : to ≡ get_or bytes 2 0) (d : many ≡ get_or bytes 3 0) (x : code ≡ get_or bytes 4 0) where
  same_numbers : kind ∷ from ∷ to ∷ many ∷ code ∷ [] ≡ record_of m
  same_numbers =
      let five = by_numbers (λ r. get_or r 0 0 ∷ get_or r 1 0 ∷ get_or r 2 0 ∷ get_or r 3 0 ∷ get_or r 4 0 ∷ [] ≡ r) (λ a b c d x. refl) m in
      let read = ap (λ (r : List ℕ). get_or r 0 0 ∷ get_or r 1 0 ∷ get_or r 2 0 ∷ get_or r 3 0 ∷ get_or r 4 0 ∷ []) e in
      cc

  pub small_numbers : sayable m ≡ true → count m < 16 → Small (kind ∷ from ∷ to ∷ many ∷ code ∷ [])
  small_numbers s few = subst Small (sym same_numbers) (small_record m s few)

  pub packed_step : (cost : ℕ) {word : ℕ} → word ≡ step_of (kind ∷ from ∷ to ∷ many ∷ code ∷ []) cost → word ≡ step_word m cost
  unfolding step_word
  packed_step cost q = q ∙ ap (λ (r : List ℕ). step_of r cost) same_numbers
