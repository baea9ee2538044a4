-- The verdicts one by one, each from the first thing that fails.
use mathlib.Core.Path.{◌≡◌, refl, sym, ap, ◌∙◌}
use mathlib.Core.Bool.{true, false}
use mathlib.Core.List.{List, [], ◌∷◌}
use Prim.Native.Nat.{ℕ, ◌*◌, ◌<◌}
use native.Mathlib.Omega.{arith}
use lib.Count.{ones}
use lib.ListN.{length, get_or}
use Rattle.base.specs.Words.{every, all, listed, concat}
use Rattle.base.specs.Answer.{refused}
use Rattle.card.specs.Card.{is_card}
use Rattle.base.proofs.Words.{first_fails, second_fails, both, get_or-listed}
use Rattle.board.specs.Table.{Table, cards_on}
use Rattle.board.specs.Verdict.{fine, is_cell, only_cards, verdict_on}
use Rattle.board.specs.Record.{room, at_most, is_zero, spare_at, column_at, shown, shapely, examined, tableau_room}
use Rattle.board.specs.Inner.{Marks, Parts, part_at}
use Rattle.board.specs.declared.Board.{Board}
use Rattle.std.specs.Prelude.{Option, Some, None}
use Rattle.board.proofs.Tables.{at_most_lem}
use Rattle.board.proofs.Marks.{marks_as, holds_none, holds_once, ones_all, ones_some}

module _ (t : Table) where
  pub bad_cell : all is_cell t.cells ≡ false → refused 13 ≡ verdict_on t
  unfolding verdict_on only_cards
  bad_cell e = rw (first_fails (all is_cell t.cells) (all is_card (concat t.columns)) e)

  pub bad_code : all is_card (concat t.columns) ≡ false → refused 13 ≡ verdict_on t
  unfolding verdict_on only_cards
  bad_code e = rw (second_fails (all is_cell t.cells) (all is_card (concat t.columns)) e)

  module _ (cells : all is_cell t.cells ≡ true) (codes : all is_card (concat t.columns) ≡ true) where
    only_cards_lem : only_cards t ≡ true
    unfolding only_cards
    only_cards_lem = both cells codes

    -- what the cards seen say of the table
    module _ {r : Option ℕ} (m : Marks 0 (cards_on t) r) where
      pub seen_twice : r ≡ None → refused 14 ≡ verdict_on t
      unfolding verdict_on
      seen_twice e = rw (only_cards_lem, (marks_as m e).knows [] holds_none)

      pub seen_all : {seen : ℕ} → r ≡ Some seen → ones seen ≡ 52 → fine ≡ verdict_on t
      unfolding verdict_on
      seen_all e h =
          let k = (marks_as m e).knows [] holds_none in
          rw (only_cards_lem, holds_once k, ones_all k h)

      pub seen_some : {seen : ℕ} → r ≡ Some seen → (ones seen ≡ 52 → ⊥) → refused 15 ≡ verdict_on t
      unfolding verdict_on
      seen_some e h =
          let k = (marks_as m e).knows [] holds_none in
          rw (only_cards_lem, holds_once k, ones_some k h)

-- ---- a record: its shape, and then what it shows

pub bad_shape : (b : Board) → shapely b ≡ false → refused 12 ≡ examined b
unfolding examined
bad_shape b e = rw e

pub good_shape : (b : Board) → shapely b ≡ true → examined b ≡ verdict_on (shown b)
unfolding examined
good_shape b e = rw e

-- the three things that a shape is
module _ (b : Board) where
  pub bad_counts : all (at_most room) b.counts ≡ false → shapely b ≡ false
  unfolding shapely
  bad_counts e = rw e

  pub bad_foundation : all (at_most 13) b.foundation ≡ false → shapely b ≡ false
  unfolding shapely
  bad_foundation e =
      second_fails (all (at_most room) b.counts) _
      (first_fails (all (at_most 13) b.foundation) (every 8 (λ i. all is_zero (spare_at b.counts b.tableau i))) e)

  pub bad_spare : every 8 (λ i. all is_zero (spare_at b.counts b.tableau i)) ≡ false → shapely b ≡ false
  unfolding shapely
  bad_spare e = second_fails (all (at_most room) b.counts) _ (second_fails (all (at_most 13) b.foundation) _ e)

  pub all-shapely : all (at_most room) b.counts ≡ true → all (at_most 13) b.foundation ≡ true
      → every 8 (λ i. all is_zero (spare_at b.counts b.tableau i)) ≡ true → shapely b ≡ true
  unfolding shapely
  all-shapely c f s = both c (both f s)

-- where the rooms of a record's columns begin
abbrev pub room_starts : List ℕ
room_starts = 0 ∷ room ∷ 2 * room ∷ 3 * room ∷ 4 * room ∷ 5 * room ∷ 6 * room ∷ 7 * room ∷ []

pub start_of : (i : ℕ) → i < 8 → get_or room_starts i 0 ≡ i * room
unfolding listed
start_of i h = get_or-listed (λ k. k * room) 8 i 0 h

pub record_parts : (counts tableau : List ℕ) → length counts ≡ 8 → length tableau ≡ tableau_room → all (at_most room) counts ≡ true
    → Parts room_starts counts tableau
record_parts counts tableau eight full e =
    record {
      starts8 = refl;
      counts8 = eight;
      within = λ i h. let s = start_of i h in let c = at_most_lem room counts e i (omega arith) in omega arith;
    }

pub parts_are_columns : (counts tableau : List ℕ) → listed 8 (part_at room_starts counts tableau) ≡ listed 8 (column_at counts tableau)
unfolding listed part_at column_at
parts_are_columns counts tableau = refl

-- a record of good shape is verdict_on by what it shows
pub verdict_record : (b : Board) → shapely b ≡ true
    → verdict_on (record { cells = b.cells; foundation = b.foundation; columns = listed 8 (part_at room_starts b.counts b.tableau) }) ≡ examined b
unfolding shown
verdict_record b e =
    ap (λ (cs : List (List ℕ)). verdict_on (record { cells = b.cells; foundation = b.foundation; columns = cs })) (parts_are_columns b.counts b.tableau)
    ∙ sym (good_shape b e)
