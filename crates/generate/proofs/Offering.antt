-- The moves of one card between two places: decided by the top of the one and by what the other takes.
use Rattle.std.specs.Prelude.{Some, None}
use mathlib.Core.Path.{◌≡◌, refl, sym, ap, ◌∙◌, subst}
use mathlib.Core.Bool.{Bool, true, false, cond}
use mathlib.Core.List.{[], ◌∷◌}
use Prim.Native.Nat.{ℕ, ◌<◌, ◌≤◌}
use native.Mathlib.Omega.{arith}
use borrow.Author.Tests.{lt-ltb, le-leb}
use lib.ListN.{length, get_or}
use Rattle.base.specs.Words.{all}
use Rattle.card.specs.Suit.{suit_number, suit_at}
use Rattle.card.specs.Card.{is_card, is_value, card_of, code_of}
use Rattle.card.specs.declared.Card.{Card}
use Rattle.base.proofs.Words.{both}
use Rattle.card.proofs.Codes.{suit_below, number_suit_at}
use Rattle.board.specs.Table.{Table}
use Rattle.board.specs.Record.{shown}
use Rattle.board.specs.declared.Board.{Board}
use Rattle.questions.specs.Questions.{top_of}
use Rattle.moves.specs.Move.{from, to, count, card, sayable}
use Rattle.moves.specs.declared.Place.{Place}
use Rattle.moves.specs.declared.Place.TheVariants.{Home as home}
use Rattle.moves.specs.Play.{there, last_of, elsewhere, within_limit, takes, allowed}
use Rattle.moves.specs.declared.Move.{Move}
use Rattle.moves.proofs.Deciding.{deny_some, one_decided}
use Rattle.play.proofs.Tops.{top_empty, some_there, top_card, top_value_lem, top_code_lem}
use Rattle.generate.specs.Found.{source_count, target_count, source, move_from, offered, if_allowed, gather, found_between, found_from}
use Rattle.generate.specs.Inner.{Offers}
use Rattle.generate.specs.declared.Way.{Way}
use Rattle.generate.specs.declared.Way.TheVariants.{ColumnToColumn, ColumnToHome, ColumnToCell, CellToColumn, CellToHome, HomeToColumn}
use Rattle.generate.proofs.Gathering.{gather_nothing}
use Rattle.generate.proofs.Places.{cards-there}

-- ---- the move of a kind from place i to place j

pub comes_from : (w : Way) (i j n : ℕ) (c : Card) → i < source_count w → from (move_from w i j n c) ≡ source w i
comes_from ColumnToColumn i j n c h = refl
comes_from ColumnToHome i j n c h = refl
comes_from ColumnToCell i j n c h = refl
comes_from CellToColumn i j n c h = refl
comes_from CellToHome i j n c h = refl
comes_from HomeToColumn i j n c h = ap home (number_suit_at i h)

pub said_way : (w : Way) (i j n : ℕ) (c : Card) → i < source_count w → j < target_count w → 1 ≤ n → n ≤ 255 → is_value c.value ≡ true
    → sayable (move_from w i j n c) ≡ true
unfolding sayable
said_way ColumnToColumn i j n c h k one most v =
    both (lt-ltb i 8 h) (both (lt-ltb j 8 k) (both (both (le-leb 1 n one) (le-leb n 255 most)) v))
said_way ColumnToHome i j n c h k one most v = both (lt-ltb i 8 h) (both (lt-ltb (suit_number c.suit) 4 (suit_below c.suit)) v)
said_way ColumnToCell i j n c h k one most v = both (lt-ltb i 8 h) (both (lt-ltb j 4 k) v)
said_way CellToColumn i j n c h k one most v = both (lt-ltb i 4 h) (both (lt-ltb j 8 k) v)
said_way CellToHome i j n c h k one most v = both (lt-ltb i 4 h) (both (lt-ltb (suit_number c.suit) 4 (suit_below c.suit)) v)
said_way HomeToColumn i j n c h k one most v = both (lt-ltb (suit_number (suit_at i)) 4 (suit_below (suit_at i))) (both (lt-ltb j 8 k) v)

-- a kind that moves one card
pub record Single (t : Table) (w : Way) (i j : ℕ) (c : Card) : Type 0 where
  pub one : count (move_from w i j 1 c) ≡ 1
  pub away : elsewhere (from (move_from w i j 1 c)) (to (move_from w i j 1 c)) ≡ true
  pub limit : within_limit t (from (move_from w i j 1 c)) (to (move_from w i j 1 c)) (count (move_from w i j 1 c)) ≡ true
  pub named : card (move_from w i j 1 c) ≡ c
  pub tried : found_between t w i j ≡ if_allowed t (offered t w i j 1)

pub single : (t : Table) (w : Way) (i j : ℕ) (c : Card) → (w ≡ ColumnToColumn → ⊥) → Single t w i j c
unfolding found_between gather
single t ColumnToColumn i j c d = absurd (d refl)
single t ColumnToHome i j c d = record { one = refl; away = refl; limit = refl; named = refl; tried = refl }
single t ColumnToCell i j c d = record { one = refl; away = refl; limit = refl; named = refl; tried = refl }
single t CellToColumn i j c d = record { one = refl; away = refl; limit = refl; named = refl; tried = refl }
single t CellToHome i j c d = record { one = refl; away = refl; limit = refl; named = refl; tried = refl }
single t HomeToColumn i j c d = record { one = refl; away = refl; limit = refl; named = refl; tried = refl }

-- ---- what is found between two places

pub if_allowed_lem : (t : Table) (m : Move) (r : Bool) → allowed t m ≡ r → if_allowed t m ≡ cond r (m ∷ []) []
unfolding if_allowed
if_allowed_lem t m r e = ap (λ (a : Bool). cond a (m ∷ []) []) e

module _ (t : Table) (w : Way) (i j : ℕ) (one : w ≡ ColumnToColumn → ⊥) (h : i < source_count w) where
  -- nothing lies there
  pub none_found : top_of (there t (source w i)) ≡ None → found_between t w i j ≡ []
  unfolding offered
  none_found e =
      let c = card_of (get_or (last_of 1 (there t (source w i))) 0 0) in
      (single t w i j c one).tried
      ∙ if_allowed_lem t (move_from w i j 1 c) false
      (deny_some t (move_from w i j 1 c)
      (let l = top_empty (there t (source w i)) e in let q = ap (λ (p : Place). length (there t p)) (comes_from w i j 1 c h) in omega arith))

  -- the place decides
  pub one_found : (c : Card) (r : Bool) → top_of (there t (source w i)) ≡ Some c → all is_card (there t (source w i)) ≡ true
      → r ≡ takes t (to (move_from w i j 1 c)) (code_of c) → found_between t w i j ≡ cond r (move_from w i j 1 c ∷ []) []
  unfolding offered
  one_found c r top cards e =
      let s = single t w i j c one in
      s.tried ∙ ap (λ (d : Card). if_allowed t (move_from w i j 1 d)) (top_card (there t (source w i)) c top)
      ∙ if_allowed_lem t (move_from w i j 1 c) r
      (one_decided t (move_from w i j 1 c) s.one s.away s.limit
      (let n = some_there (there t (source w i)) c top in let q = ap (λ (p : Place). length (there t p)) (comes_from w i j 1 c h) in omega arith)
      (ap (λ (p : Place). get_or (last_of 1 (there t p)) 0 0) (comes_from w i j 1 c h) ∙ top_code_lem (there t (source w i)) c top cards ∙ ap code_of (sym s.named))
      ∙ ap (λ (d : Card). takes t (to (move_from w i j 1 c)) (code_of d)) s.named ∙ sym e)

pub none_from : (t : Table) (w : Way) (i : ℕ) → (w ≡ ColumnToColumn → ⊥) → i < source_count w → top_of (there t (source w i)) ≡ None → found_from t w i ≡ []
unfolding found_from
none_from t w i one h e = gather_nothing (found_between t w i) (target_count w) (λ j l. none_found t w i j one h e)

-- ---- on a record

module _ {b : Board} {w : Way} {i j : ℕ} {c : Card} (o : Offers b w i j c) where
  cards : all is_card (there (shown b) (source w i)) ≡ true
  cards = cards-there o.sound w i o.leaves

  pub offer_value : is_value c.value ≡ true
  offer_value = top_value_lem (there (shown b) (source w i)) c o.top cards

  pub offer_said : {m : Move} → m ≡ move_from w i j 1 c → sayable m ≡ true
  offer_said e =
      subst (λ (m : Move). sayable m ≡ true) (sym e) (said_way w i j 1 c o.leaves o.goes (omega arith) (omega arith) offer_value)

  pub offer_found : {r s : Bool} → r ≡ takes (shown b) (to (move_from w i j 1 c)) (code_of c) → r ≡ s
      → found_between (shown b) w i j ≡ cond s (move_from w i j 1 c ∷ []) []
  offer_found {r} {s} e q = one_found (shown b) w i j o.single o.leaves c s o.top cards (sym q ∙ e)
