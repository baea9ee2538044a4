-- A record of good shape and the table that it shows determine each other.
use mathlib.Core.Path.{◌≡◌, sym, ap, ◌∙◌}
use mathlib.Core.Bool.{true}
use mathlib.Core.List.{List, []}
use Prim.Native.Nat.{ℕ, ◌+◌, ◌*◌, ◌/◌, ◌%◌, ◌<◌, ◌≤◌}
use native.Mathlib.Omega.{arith}
use native.Mathlib.Decide.{dec_lt}
use lib.ListN.{length, get_or, drop, length-take, length-drop, get_or-eq_default}
use lib.Seq.{ext_get_or, get_or-take, get_or-drop}
use Rattle.base.specs.Words.{listed}
use Rattle.base.proofs.Words.{listed_same, length-listed, get_or-listed}
use Rattle.board.specs.Table.{Table}
use Rattle.board.specs.Verdict.{fine, verdict_on}
use Rattle.board.specs.Record.{room, column_at, shown, shapely, examined, board_of, laid, tableau_room}
use Rattle.board.specs.Inner.{GoodPiles, GoodColumns, Sized}
use Rattle.board.specs.declared.Board.{Board}
use Rattle.board.proofs.Verdicts.{good_shape}
use Rattle.board.proofs.Soundness.{column_length, column_code, shape_of}

-- the record of eight columns, count by count and place by place
module _ (cells foundation : List ℕ) (f : ℕ → List ℕ) where
  pub record_of_columns : board_of (record { cells = cells; foundation = foundation; columns = listed 8 f })
      ≡ laid cells foundation (listed 8 (λ i. length (f i))) (listed tableau_room (λ p. get_or (f (p / room)) (p % room) 0))
  unfolding board_of
  record_of_columns =
      ap (λ (c : List ℕ). laid cells foundation c (listed tableau_room in_columns))
      (listed_same (λ i. length (get_or (listed 8 f) i [])) (λ i. length (f i)) 8 (λ i h. ap length (get_or-listed f 8 i [] h)))
      ∙ ap (λ (t : List ℕ). laid cells foundation (listed 8 (λ i. length (f i))) t)
      (listed_same in_columns (λ p. get_or (f (p / room)) (p % room) 0) tableau_room
      (λ p h. ap (λ (l : List ℕ). get_or l (p % room) 0) (get_or-listed f 8 (p / room) [] (omega arith))))
    where
      in_columns : ℕ → ℕ
      in_columns p = get_or (get_or (listed 8 f) (p / room) []) (p % room) 0

-- a list of n numbers is listed by its places
pub listed_back : (l : List ℕ) (n : ℕ) → length l ≡ n → listed n (λ k. get_or l k 0) ≡ l
listed_back l n e =
    ext_get_or 0 (listed n (λ k. get_or l k 0)) l (length-listed (λ k. get_or l k 0) n ∙ sym e)
    (λ k h. get_or-listed (λ k. get_or l k 0) n k 0 (let m = length-listed (λ k. get_or l k 0) n in omega arith))

module _ (b : Board) (g : GoodColumns b.counts b.tableau) where
  abbrev column : ℕ → List ℕ
  column = column_at b.counts b.tableau

  same_counts : listed 8 (λ i. length (column i)) ≡ b.counts
  same_counts =
      listed_same (λ i. length (column i)) (λ i. get_or b.counts i 0) 8 (column_length g) ∙ listed_back b.counts 8 g.eight

  -- the code at row j of column i, and 0 past the column's end
  pub code_there : (i j : ℕ) → i < 8 → j < room → get_or (column i) j 0 ≡ get_or b.tableau (i * room + j) 0
  code_there i j h l = by_side (dec_lt j (get_or b.counts i 0))
    where
      by_side : Dec (j < get_or b.counts i 0) → get_or (column i) j 0 ≡ get_or b.tableau (i * room + j) 0
      by_side (yes m) = column_code b.counts b.tableau i j m
      by_side (no m) =
          get_or-eq_default (column i) 0 (let n = column_length g i h in omega arith) ∙ sym (g.spare i j h (omega arith) l)

  same_codes : listed tableau_room (λ p. get_or (column (p / room)) (p % room) 0) ≡ b.tableau
  same_codes =
      listed_same (λ p. get_or (column (p / room)) (p % room) 0) (λ p. get_or b.tableau p 0) tableau_room
      (λ p h. code_there (p / room) (p % room) (omega arith) (omega arith)
      ∙ ap (λ (q : ℕ). get_or b.tableau q 0) (let q : p / room * room + p % room ≡ p = omega arith in q))
      ∙ listed_back b.tableau tableau_room g.full

  -- the record of what a record shows is that record
  pub record_of_shown : board_of (shown b) ≡ b
  unfolding shown
  record_of_shown =
      record_of_columns b.cells b.foundation column
      ∙ ap (λ (c : List ℕ). laid b.cells b.foundation c (listed tableau_room (λ p. get_or (column (p / room)) (p % room) 0))) same_counts
      ∙ ap (λ (t : List ℕ). laid b.cells b.foundation b.counts t) same_codes

-- two records whose unused room is zero and that show the same table are the same record
pub determined : (a b : Board) → GoodColumns a.counts a.tableau → GoodColumns b.counts b.tableau → shown a ≡ shown b → a ≡ b
determined a b g h e = sym (record_of_shown a g) ∙ ap board_of e ∙ record_of_shown b h

-- ---- a table that fits a record

pub record Laid (t : Table) : Type 0 where
  pub four : length t.cells ≡ 4
  pub piles : GoodPiles t.foundation
  pub eight : length t.columns ≡ 8
  pub short : (i : ℕ) → i < 8 → length (get_or t.columns i []) ≤ room

module _ (t : Table) (l : Laid t) where
  abbrev column_of : ℕ → List ℕ
  column_of i = get_or t.columns i []

  abbrev code_of_lem : ℕ → ℕ
  code_of_lem p = get_or (column_of (p / room)) (p % room) 0

  abbrev counts_of : List ℕ
  counts_of = listed 8 (λ i. length (column_of i))

  abbrev tableau_of : List ℕ
  tableau_of = listed tableau_room code_of_lem

  count_at : (i : ℕ) → i < 8 → get_or counts_of i 0 ≡ length (column_of i)
  count_at i h = get_or-listed (λ i. length (column_of i)) 8 i 0 h

  code_at : (i j : ℕ) → i < 8 → j < room → get_or tableau_of (i * room + j) 0 ≡ get_or (column_of i) j 0
  code_at i j h m =
      get_or-listed code_of_lem tableau_room (i * room + j) 0 (omega arith)
      ∙ ap (λ (k : ℕ). get_or (column_of k) ((i * room + j) % room) 0) (let q : (i * room + j) / room ≡ i = omega arith in q)
      ∙ ap (λ (k : ℕ). get_or (column_of i) k 0) (let q : (i * room + j) % room ≡ j = omega arith in q)

  column_back : (i : ℕ) → i < 8 → column_at counts_of tableau_of i ≡ column_of i
  unfolding column_at
  column_back i h =
      let c = count_at i h in
      let s = l.short i h in
      let n = length-take (get_or counts_of i 0) (drop (i * room) tableau_of) in
      let d = length-drop (i * room) tableau_of in
      let f = length-listed code_of_lem tableau_room in
      ext_get_or 0 (column_at counts_of tableau_of i) (column_of i) (omega arith)
      (λ j b. get_or-take (get_or counts_of i 0) (drop (i * room) tableau_of) j 0 (omega arith)
      ∙ get_or-drop (i * room) tableau_of j 0 ∙ code_at i j h (omega arith))

  -- what the record of a table shows is that table
  pub shown_of_record : shown (board_of t) ≡ t
  unfolding shown board_of
  shown_of_record =
      ap (λ (c : List (List ℕ)). record { cells = t.cells; foundation = t.foundation; columns = c })
      (listed_same (column_at counts_of tableau_of) column_of 8 column_back ∙ all_of_them)
    where
      all_of_them : listed 8 column_of ≡ t.columns
      all_of_them =
          ext_get_or [] (listed 8 column_of) t.columns (length-listed column_of 8 ∙ sym l.eight)
          (λ i h. get_or-listed column_of 8 i [] (let n = length-listed column_of 8 in omega arith))

  shape_of_record : shapely (board_of t) ≡ true
  unfolding board_of
  shape_of_record =
      shape_of (board_of t) l.piles (length-listed (λ i. length (column_of i)) 8) (length-listed code_of_lem tableau_room)
      (λ i h. let c = count_at i h in let s = l.short i h in omega arith)
      (λ i j h a b. code_at i j h b ∙ get_or-eq_default (column_of i) 0 (let c = count_at i h in omega arith))

  pub fine_of_record : verdict_on t ≡ fine → examined (board_of t) ≡ fine
  fine_of_record e = good_shape (board_of t) shape_of_record ∙ ap verdict_on shown_of_record ∙ e

  pub sized_of_record : Sized (board_of t)
  unfolding board_of
  sized_of_record =
      record { four = l.four; piles = l.piles.four; eight = length-listed (λ i. length (column_of i)) 8; full = length-listed code_of_lem tableau_room }
