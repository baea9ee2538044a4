-- Record and move say each other.
use mathlib.Core.Path.{◌≡◌, refl, sym, ap, ap₂, ◌∙◌, subst}
use mathlib.Core.Bool.{Bool, true, false}
use mathlib.Core.List.{List, [], ◌∷◌}
use Prim.Native.Nat.{ℕ, zero, suc, ◌%◌, ◌≤◌}
use native.Mathlib.Omega.{arith}
use borrow.Author.Tests.{eqb-true, ltb-true, eq-eqb, ne_eqb, lt-leb, le-leb, lt-ltb}
use lib.Dec.{eqb, ltb}
use lib.ListN.{length, get_or}
use Rattle.card.specs.Suit.{suit_number, suit_at}
use Rattle.card.specs.Card.{is_card, is_value, card_of, code_of}
use Rattle.card.specs.declared.Card.{Card}
use Rattle.card.specs.declared.Suit.{Suit}
use Rattle.base.specs.Answer.{given, unless}
use Rattle.base.proofs.Answers.{given_by}
use Rattle.base.proofs.Words.{true_or_not, both, first, second}
use Rattle.card.proofs.Codes.{card_is, value_of_card, card_code, code_card, code_is_card, suit_below, suit_at_number, number_suit_at}
use Rattle.moves.specs.Move.{sayable}
use Rattle.moves.specs.Record.{source_room, target_allows, count_allows, possible, move_said, move_of, move_asked, record_of}
use Rattle.moves.specs.declared.Move.{Move}
use Rattle.moves.specs.declared.Move.TheVariants.{TableauToTableau, TableauToFoundation, TableauToFreeCell, FreeCellToTableau, FreeCellToFoundation, FoundationToTableau}
use Rattle.moves.proofs.Records.{said_from, said_to, said_count, said_value}

-- the move of a move's record is that move
pub move_of_record : (m : Move) → move_of (record_of m) ≡ m
unfolding move_of move_said record_of
move_of_record (TableauToTableau s d n c) = ap (TableauToTableau s d n) (card_code c)
move_of_record (TableauToFoundation s c) = ap (TableauToFoundation s) (card_code c)
move_of_record (TableauToFreeCell s i c) = ap (TableauToFreeCell s i) (card_code c)
move_of_record (FreeCellToTableau i d c) = ap (FreeCellToTableau i d) (card_code c)
move_of_record (FreeCellToFoundation i c) = ap (FreeCellToFoundation i) (card_code c)
move_of_record (FoundationToTableau s d c) =
    ap₂ (λ (t : Suit) (k : Card). FoundationToTableau t d k) (suit_at_number s) (card_code c)

-- no two moves have one record
pub one_move_lem : (m n : Move) → record_of m ≡ record_of n → m ≡ n
one_move_lem m n e = sym (move_of_record m) ∙ ap move_of e ∙ move_of_record n

no_kind : (k : ℕ) → 7 ≤ k → source_room k ≡ 0
unfolding source_room
no_kind k h = rw (ne_eqb k 0 (λ e. let z : ⊥ = omega arith in z), lt-leb k 3 (omega arith), lt-leb k 6 (omega arith))

-- the record of a possible record's move is that record
module _ (f t n x : ℕ) (isc : is_card x ≡ true) where
  code : code_of (card_of x) ≡ x
  code = code_card x isc

  own_suit : t ≡ x % 16 → suit_number (card_of x).suit ≡ t
  unfolding card_of
  own_suit e = number_suit_at (x % 16) (card_is x isc).suit ∙ sym e

  by_kind : (k : ℕ) → ltb f (source_room k) ≡ true → target_allows k t x ≡ true → count_allows k n ≡ true
      → record_of (move_said k f t n x) ≡ k ∷ f ∷ t ∷ n ∷ x ∷ []
  unfolding source_room target_allows count_allows move_said record_of
  by_kind zero s g c = let h = ltb-true f 0 s in absurd (let z : ⊥ = omega arith in z)
  by_kind (suc zero) s g c = ap (λ (y : ℕ). 1 ∷ f ∷ t ∷ n ∷ y ∷ []) code
  by_kind (suc (suc zero)) s g c =
      let o = own_suit (eqb-true t (x % 16) g) in
      let one = eqb-true n 1 c in
      rw (o, code, one)
  by_kind (suc (suc (suc zero))) s g c = rw (code, eqb-true n 1 c)
  by_kind (suc (suc (suc (suc zero)))) s g c = rw (code, eqb-true n 1 c)
  by_kind (suc (suc (suc (suc (suc zero))))) s g c = rw (own_suit (eqb-true t (x % 16) g), code, eqb-true n 1 c)
  by_kind (suc (suc (suc (suc (suc (suc zero)))))) s g c = rw (number_suit_at f (ltb-true f 4 s), code, eqb-true n 1 c)
  by_kind (suc (suc (suc (suc (suc (suc (suc k))))))) s g c =
      let h = ltb-true f _ s in
      let z = no_kind (suc (suc (suc (suc (suc (suc (suc k))))))) (omega arith) in
      absurd (let w : ⊥ = omega arith in w)

pub record_of_move : (r : List ℕ) → possible r ≡ true → record_of (move_of r) ≡ r
unfolding possible move_of
record_of_move [] e = true_or_not false e refl
record_of_move (a ∷ []) e = true_or_not false e refl
record_of_move (a ∷ b ∷ []) e = true_or_not false e refl
record_of_move (a ∷ b ∷ c ∷ []) e = true_or_not false e refl
record_of_move (a ∷ b ∷ c ∷ d ∷ []) e = true_or_not false e refl
record_of_move (a ∷ b ∷ c ∷ d ∷ x ∷ []) e =
    let isc = first (is_card x) _ e in
    let rest = second (is_card x) _ e in
    let goal = second (ltb b (source_room a)) _ rest in
    by_kind b c d x isc a (first (ltb b (source_room a)) _ rest) (first (target_allows a c x) _ goal) (second (target_allows a c x) _ goal)
record_of_move (a ∷ b ∷ c ∷ d ∷ x ∷ y ∷ l) e =
    let h = eqb-true (length (a ∷ b ∷ c ∷ d ∷ x ∷ y ∷ l)) 5 (first (eqb (length (a ∷ b ∷ c ∷ d ∷ x ∷ y ∷ l)) 5) _ e) in
    absurd (let w : ⊥ = omega arith in w)

-- the move of a possible record of bytes can be said
module _ (f t n x : ℕ) (isc : is_card x ≡ true) (byte : n ≤ 255) where
  abbrev has_value : is_value (card_of x).value ≡ true
  has_value = value_of_card x isc

  suited : (s : Suit) → ltb (suit_number s) 4 ≡ true
  suited s = lt-ltb (suit_number s) 4 (suit_below s)

  said_kind : (k : ℕ) → ltb f (source_room k) ≡ true → target_allows k t x ≡ true → count_allows k n ≡ true
      → sayable (move_said k f t n x) ≡ true
  unfolding source_room target_allows count_allows move_said sayable
  said_kind zero s g c = let h = ltb-true f 0 s in absurd (let z : ⊥ = omega arith in z)
  said_kind (suc zero) s g c = both s (both g (both (both c (le-leb n 255 byte)) has_value))
  said_kind (suc (suc zero)) s g c = both s (both (suited (card_of x).suit) has_value)
  said_kind (suc (suc (suc zero))) s g c = both s (both g has_value)
  said_kind (suc (suc (suc (suc zero)))) s g c = both s (both g has_value)
  said_kind (suc (suc (suc (suc (suc zero))))) s g c = both s (both (suited (card_of x).suit) has_value)
  said_kind (suc (suc (suc (suc (suc (suc zero)))))) s g c = both (suited (suit_at f)) (both g has_value)
  said_kind (suc (suc (suc (suc (suc (suc (suc k))))))) s g c =
      let h = ltb-true f _ s in
      let z = no_kind (suc (suc (suc (suc (suc (suc (suc k))))))) (omega arith) in
      absurd (let w : ⊥ = omega arith in w)

pub said_of_record : (r : List ℕ) → get_or r 3 0 ≤ 255 → possible r ≡ true → sayable (move_of r) ≡ true
unfolding possible move_of
said_of_record r byte e =
    let more = second (eqb (length r) 5) _ e in
    let isc = first (is_card (get_or r 4 0)) _ more in
    let rest = second (is_card (get_or r 4 0)) _ more in
    let goal = second (ltb (get_or r 1 0) (source_room (get_or r 0 0))) _ rest in
    said_kind (get_or r 1 0) (get_or r 2 0) (get_or r 3 0) (get_or r 4 0) isc byte (get_or r 0 0)
    (first (ltb (get_or r 1 0) (source_room (get_or r 0 0))) _ rest)
    (first (target_allows (get_or r 0 0) (get_or r 2 0) (get_or r 4 0)) _ goal)
    (second (target_allows (get_or r 0 0) (get_or r 2 0) (get_or r 4 0)) _ goal)

-- the move that some bytes ask for
pub asked-possible : (r : List ℕ) → possible r ≡ true → move_asked r ≡ given (move_of r)
unfolding move_asked
asked-possible r e = ap (λ (ok : Bool). unless ok 30 (given (move_of r))) e

pub said_asked : (r : List ℕ) {m : Move} → get_or r 3 0 ≤ 255 → given m ≡ move_asked r → sayable m ≡ true
unfolding move_asked
said_asked r {m} byte e =
    let g = given_by (possible r) 30 (given (move_of r)) (sym e) in
    let same : move_of r ≡ m = (let q = g.1 in cc) in
    subst (λ (n : Move). sayable n ≡ true) same (said_of_record r byte g.0)

-- ---- the record of a move that can be said is possible

own_number : (c : Card) → suit_number c.suit ≡ code_of c % 16
unfolding code_of
own_number c = let s = suit_below c.suit in omega arith

pub possible_said : (m : Move) → sayable m ≡ true → possible (record_of m) ≡ true
unfolding possible record_of source_room target_allows count_allows
possible_said (TableauToTableau s d n c) e =
    both (code_is_card c (said_value _ e)) (both (said_from _ e) (both (said_to _ e) (le-leb 1 n (said_count (TableauToTableau s d n c) e))))
possible_said (TableauToFoundation s c) e =
    both (code_is_card c (said_value _ e)) (both (said_from _ e) (both (eq-eqb (suit_number c.suit) (code_of c % 16) (own_number c)) refl))
possible_said (TableauToFreeCell s i c) e = both (code_is_card c (said_value _ e)) (both (said_from _ e) (both (said_to _ e) refl))
possible_said (FreeCellToTableau i d c) e = both (code_is_card c (said_value _ e)) (both (said_from _ e) (both (said_to _ e) refl))
possible_said (FreeCellToFoundation i c) e =
    both (code_is_card c (said_value _ e)) (both (said_from _ e) (both (eq-eqb (suit_number c.suit) (code_of c % 16) (own_number c)) refl))
possible_said (FoundationToTableau s d c) e = both (code_is_card c (said_value _ e)) (both (said_from _ e) (both (said_to _ e) refl))

pub asked_said : (m : Move) → sayable m ≡ true → move_asked (record_of m) ≡ given m
asked_said m e = asked-possible (record_of m) (possible_said m e) ∙ ap (λ (n : Move). given n) (move_of_record m)
