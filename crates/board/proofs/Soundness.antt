-- A record that is examined and fine is sound at every place, and the other way round.
use mathlib.Core.Path.{◌≡◌, refl, sym, ap, ◌∙◌, subst}
use mathlib.Core.Bool.{Bool, true, false}
use mathlib.Core.List.{List}
use Prim.Native.Nat.{ℕ, ◌+◌, ◌-◌, ◌*◌, ◌<◌, ◌≤◌}
use native.Mathlib.Omega.{arith}
use borrow.Author.Tests.{le-leb}
use lib.ListN.{length, get_or, take, drop, length-take, length-drop}
use lib.Seq.{get_or-take, get_or-drop}
use Rattle.base.specs.Words.{all, listed, concat}
use Rattle.base.specs.Answer.{unless}
use Rattle.card.specs.Card.{is_card}
use Rattle.base.proofs.Words.{both, first, second, every_at, every_by, all_at, all_by, all-concat}
use Rattle.board.specs.Table.{cards_on}
use Rattle.board.specs.Verdict.{Verdict, fine, is_cell, only_cards, none_twice, none_missing, verdict_on}
use Rattle.board.specs.Record.{room, at_most, is_zero, column_at, spare_at, shown, shapely, examined, tableau_room}
use Rattle.board.specs.Inner.{GoodPiles, GoodColumns, Sound, Sized}
use Rattle.board.specs.declared.Board.{Board}
use Rattle.board.proofs.Marks.{none_twice_lem, none_twice_at, none_missing_lem, none_missing_at}
use Rattle.board.proofs.Tables.{at_most_lem, good_cells, good_piles}

-- ---- a verdict that is fine passed every test

pub passed : (ok : Bool) (n : ℕ) (v : Verdict) → unless ok n v ≡ fine → (ok ≡ true) × (v ≡ fine)
passed true n v e = (refl, e)
passed false n v e = let z : ◌≡◌ {A = ℕ} 0 1 = cc in absurd (let w : ⊥ = omega arith in w)

-- ---- the columns of a record

module _ (counts tableau : List ℕ) (i : ℕ) where
  column_long : length tableau ≡ tableau_room → i < 8 → get_or counts i 0 ≤ room → length (column_at counts tableau i) ≡ get_or counts i 0
  unfolding column_at
  column_long full h w =
      length-take (get_or counts i 0) (drop (i * room) tableau) ∙ (let l = length-drop (i * room) tableau in omega arith)

  pub column_code : (j : ℕ) → j < get_or counts i 0 → get_or (column_at counts tableau i) j 0 ≡ get_or tableau (i * room + j) 0
  unfolding column_at
  column_code j h = get_or-take (get_or counts i 0) (drop (i * room) tableau) j 0 h ∙ get_or-drop (i * room) tableau j 0

  spare_long : length tableau ≡ tableau_room → i < 8 → get_or counts i 0 ≤ room → length (spare_at counts tableau i) ≡ room - get_or counts i 0
  unfolding spare_at
  spare_long full h w =
      length-take (room - get_or counts i 0) (drop (i * room + get_or counts i 0) tableau)
      ∙ (let l = length-drop (i * room + get_or counts i 0) tableau in omega arith)

  spare_code : (k : ℕ) → k < room - get_or counts i 0 → get_or (spare_at counts tableau i) k 0 ≡ get_or tableau (i * room + (get_or counts i 0 + k)) 0
  unfolding spare_at
  spare_code k b =
      get_or-take (room - get_or counts i 0) (drop (i * room + get_or counts i 0) tableau) k 0 b
      ∙ get_or-drop (i * room + get_or counts i 0) tableau k 0
      ∙ ap (λ (p : ℕ). get_or tableau p 0) (let q : i * room + get_or counts i 0 + k ≡ i * room + (get_or counts i 0 + k) = omega arith in q)

-- a column as the part of the flat array that code lends
pub column_part : (counts tableau : List ℕ) (i : ℕ) {w : ℕ} → w ≡ get_or counts i 0
    → take ((i * room + w) - i * room) (drop (i * room) tableau) ≡ column_at counts tableau i
unfolding column_at
column_part counts tableau i {w} e =
    ap (λ (n : ℕ). take n (drop (i * room) tableau)) (let q : (i * room + w) - i * room ≡ get_or counts i 0 = omega arith in q)

pub column_length : {counts tableau : List ℕ} → GoodColumns counts tableau → (i : ℕ) → i < 8 → length (column_at counts tableau i) ≡ get_or counts i 0
column_length {counts} {tableau} g i h = column_long counts tableau i g.full h (g.within i h)

-- ---- from the tests to the places

shape_piles : (b : Board) → shapely b ≡ true → all (at_most 13) b.foundation ≡ true
unfolding shapely
shape_piles b e = first (all (at_most 13) b.foundation) _ (second (all (at_most room) b.counts) _ e)

module _ (b : Board) (z : Sized b) where
  good_columns : shapely b ≡ true → all is_card (concat (listed 8 (column_at b.counts b.tableau))) ≡ true → GoodColumns b.counts b.tableau
  unfolding shapely
  good_columns e c =
      let counts = first (all (at_most room) b.counts) _ e in
      let spares = second (all (at_most 13) b.foundation) _ (second (all (at_most room) b.counts) _ e) in
      let within : (i : ℕ) → i < 8 → get_or b.counts i 0 ≤ room = λ i h. at_most_lem room b.counts counts i (let l = z.eight in omega arith) in
      record {
        eight = z.eight;
        full = z.full;
        within = within;
        codes = λ i j h l. subst (λ (x : ℕ). is_card x ≡ true) (column_code b.counts b.tableau i j l)
            (all_at is_card (column_at b.counts b.tableau i)
            (every_at (λ k. all is_card (column_at b.counts b.tableau k)) 8 (sym (all-concat is_card (column_at b.counts b.tableau) 8) ∙ c) i h)
            j (let n = column_long b.counts b.tableau i z.full h (within i h) in omega arith));
        spare = λ i j h l m.
            let zero-there = at_most_lem 0 (spare_at b.counts b.tableau i) (every_at (λ k. all is_zero (spare_at b.counts b.tableau k)) 8 spares i h)
            (j - get_or b.counts i 0) (let n = spare_long b.counts b.tableau i z.full h (within i h) in omega arith) in
            let there = spare_code b.counts b.tableau i (j - get_or b.counts i 0) (omega arith) in
            let place = ap (λ (p : ℕ). get_or b.tableau p 0) (let q : i * room + (get_or b.counts i 0 + (j - get_or b.counts i 0)) ≡ i * room + j = omega arith in q) in
            omega arith;
      }

  pub sound : examined b ≡ fine → Sound b
  unfolding examined verdict_on only_cards shown
  sound e =
      let s = passed (shapely b) 12 (verdict_on (shown b)) e in
      let o = passed (only_cards (shown b)) 13 _ s.1 in
      let t = passed (none_twice (cards_on (shown b))) 14 _ o.1 in
      let m = passed (none_missing (cards_on (shown b))) 15 _ t.1 in
      record {
        in_cells = good_cells b.cells z.four (first (all is_cell b.cells) _ o.0);
        in_piles = good_piles b.foundation z.piles (shape_piles b s.0);
        in_columns = good_columns s.0 (second (all is_cell b.cells) _ o.0);
        once = λ k h. let a = none_twice_at (cards_on (shown b)) t.0 k h in let c = none_missing_at (cards_on (shown b)) m.0 k h in omega arith;
      }

-- ---- and from the places to the tests

pub shape_of : (b : Board) → GoodPiles b.foundation → length b.counts ≡ 8 → length b.tableau ≡ tableau_room
    → ((i : ℕ) → i < 8 → get_or b.counts i 0 ≤ room)
    → ((i j : ℕ) → i < 8 → get_or b.counts i 0 ≤ j → j < room → get_or b.tableau (i * room + j) 0 ≡ 0)
    → shapely b ≡ true
unfolding shapely
shape_of b piles eight full within spare =
    both
    (all_by (at_most room) b.counts (λ i h. le-leb (get_or b.counts i 0) room (within i (omega arith))))
    (both
    (all_by (at_most 13) b.foundation
    (λ i h. le-leb (get_or b.foundation i 0) 13 (piles.within i (let l = piles.four in omega arith))))
    (every_by (λ i. all is_zero (spare_at b.counts b.tableau i)) 8
    (λ i h. all_by is_zero (spare_at b.counts b.tableau i)
    (λ k l.
    let w = within i h in
    let n = spare_long b.counts b.tableau i full h w in
    le-leb (get_or (spare_at b.counts b.tableau i) k 0) 0
    (let e = spare_code b.counts b.tableau i k (omega arith) in
    let z = spare i (get_or b.counts i 0 + k) h (omega arith) (omega arith) in
    omega arith)))))

module _ {b : Board} (s : Sound b) where
  pub sound_shape : shapely b ≡ true
  sound_shape =
      let c = s.in_columns in
      shape_of b s.in_piles c.eight c.full c.within c.spare

  good_codes_of : only_cards (shown b) ≡ true
  unfolding only_cards shown
  good_codes_of =
      both
      (all_by is_cell b.cells (λ i h. s.in_cells.codes i (let l = s.in_cells.four in omega arith)))
      (all-concat is_card (column_at b.counts b.tableau) 8
      ∙ every_by (λ i. all is_card (column_at b.counts b.tableau i)) 8
      (λ i h. all_by is_card (column_at b.counts b.tableau i)
      (λ j l.
      let n = column_length s.in_columns i h in
      let m : j < get_or b.counts i 0 = omega arith in
      subst (λ (x : ℕ). is_card x ≡ true) (sym (column_code b.counts b.tableau i j m)) (s.in_columns.codes i j h m))))

  pub sound_fine : examined b ≡ fine
  unfolding examined verdict_on
  sound_fine =
      rw (
        sound_shape,
        good_codes_of,
        none_twice_lem (cards_on (shown b)) (λ k h. let o = s.once k h in omega arith),
        none_missing_lem (cards_on (shown b)) (λ k h. let o = s.once k h in omega arith),
      )

  pub sound_sized : Sized b
  sound_sized = record { four = s.in_cells.four; piles = s.in_piles.four; eight = s.in_columns.eight; full = s.in_columns.full }
