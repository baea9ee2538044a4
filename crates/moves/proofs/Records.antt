-- Move records: what makes one impossible, and that record and move say each other.
use mathlib.Core.Path.{◌≡◌, ap}
use mathlib.Core.Bool.{true, false, ◌&&◌}
use mathlib.Core.List.{List}
use Prim.Native.Nat.{ℕ, ◌≤◌}
use borrow.Author.Tests.{eq-eqb, ne_eqb, le-ltb, leb-true}
use lib.Dec.{eqb, leb, ltb}
use lib.ListN.{length, get_or}
use Rattle.base.specs.Answer.{given, refused}
use Rattle.card.specs.Card.{is_card, is_value}
use Rattle.base.proofs.Words.{first, second, first_fails, second_fails}
use Rattle.moves.specs.Move.{from, to, count, card, is_place, sayable}
use Rattle.moves.specs.declared.Place.{Place}
use Rattle.moves.specs.declared.Place.TheVariants.{Column as column, Cell as cell, Home as home}
use Rattle.moves.specs.Record.{source_room, target_allows, count_allows, possible, move_said, move_of, move_asked}
use Rattle.moves.specs.declared.Move.{Move}

module _ (r : List ℕ) where
  impossible : possible r ≡ false → refused 30 ≡ move_asked r
  unfolding move_asked
  impossible e = rw e

  pub not_five : (length r ≡ 5 → ⊥) → refused 30 ≡ move_asked r
  unfolding possible
  not_five d = impossible (first_fails (eqb (length r) 5) _ (ne_eqb (length r) 5 d))

  pub no_card_lem : is_card (get_or r 4 0) ≡ false → refused 30 ≡ move_asked r
  unfolding possible
  no_card_lem e = impossible (second_fails (eqb (length r) 5) _ (first_fails (is_card (get_or r 4 0)) _ e))

  pub no_source : source_room (get_or r 0 0) ≤ get_or r 1 0 → refused 30 ≡ move_asked r
  unfolding possible
  no_source h =
      impossible
      (second_fails (eqb (length r) 5) _
      (second_fails (is_card (get_or r 4 0)) _ (first_fails (ltb (get_or r 1 0) (source_room (get_or r 0 0))) _ (le-ltb (get_or r 1 0) (source_room (get_or r 0 0)) h))))

  pub no_target : target_allows (get_or r 0 0) (get_or r 2 0) (get_or r 4 0) ≡ false → refused 30 ≡ move_asked r
  unfolding possible
  no_target e =
      impossible
      (second_fails (eqb (length r) 5) _
      (second_fails (is_card (get_or r 4 0)) _
      (second_fails (ltb (get_or r 1 0) (source_room (get_or r 0 0))) _ (first_fails (target_allows (get_or r 0 0) (get_or r 2 0) (get_or r 4 0)) _ e))))

  pub no_count : count_allows (get_or r 0 0) (get_or r 3 0) ≡ false → refused 30 ≡ move_asked r
  unfolding possible
  no_count e =
      impossible
      (second_fails (eqb (length r) 5) _
      (second_fails (is_card (get_or r 4 0)) _
      (second_fails (ltb (get_or r 1 0) (source_room (get_or r 0 0))) _ (second_fails (target_allows (get_or r 0 0) (get_or r 2 0) (get_or r 4 0)) _ e))))

  pub said : length r ≡ 5 → is_card (get_or r 4 0) ≡ true → ltb (get_or r 1 0) (source_room (get_or r 0 0)) ≡ true
      → target_allows (get_or r 0 0) (get_or r 2 0) (get_or r 4 0) ≡ true → count_allows (get_or r 0 0) (get_or r 3 0) ≡ true
      → {m : Move} → m ≡ move_said (get_or r 0 0) (get_or r 1 0) (get_or r 2 0) (get_or r 3 0) (get_or r 4 0) → given m ≡ move_asked r
  unfolding move_asked possible move_of
  said five isc source target counts e =
      rw (eq-eqb (length r) 5 five, isc, source, target, counts) (ap (λ (n : Move). given n) e)

-- ---- a move that a record can say fits its bytes

abbrev pub place_number : Place → ℕ
place_number (column i) = i
place_number (cell i) = i
place_number (home s) = s

module _ (m : Move) (e : sayable m ≡ true) where
  pub said_from : is_place (from m) ≡ true
  unfolding sayable
  said_from = first (is_place (from m)) _ e

  pub said_to : is_place (to m) ≡ true
  unfolding sayable
  said_to = first (is_place (to m)) _ (second (is_place (from m)) _ e)

  pub said_count : 1 ≤ count m
  unfolding sayable
  said_count =
      leb-true 1 (count m)
      (first (leb 1 (count m)) _ (first (leb 1 (count m) && leb (count m) 255) (is_value (card m).value) (second (is_place (to m)) _ (second (is_place (from m)) _ e))))

  pub said_value : is_value (card m).value ≡ true
  unfolding sayable
  said_value = second (leb 1 (count m) && leb (count m) 255) (is_value (card m).value) (second (is_place (to m)) _ (second (is_place (from m)) _ e))
