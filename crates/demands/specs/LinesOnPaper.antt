-- Request (iv), sentence by sentence: "Lines on paper. Hosts print solutions in the two-character notation players already write."
use Rattle.std.specs.Prelude.{◌≡◌, true, List, [], ◌∷◌, ◌++◌, ℕ, suc, ◌*◌, ◌<◌, ◌≤◌, length, get_or, take}
use Rattle.board.specs.Table.{Table}
use Rattle.moves.specs.Record.{record_of}
use Rattle.moves.specs.Written.{list_room}
use Rattle.moves.specs.declared.Move.{Move}
use Rattle.notation.specs.Jot.{line_text, AllWell}
use Rattle.sense.specs.Outcome.{most_moves}
use Rattle.writing.specs.Asked.{text_room}
use Rattle.notation.specs.declared.Jot.{Jot}
use Rattle.crossing.specs.Wire.{board_room}
use Rattle.corbelnib.specs.Calls.{examine, replay, read_line, write_line, Call, GoodBoard}
use Rattle.demands.specs.Demand1.{is_in, of_moves}
use Rattle.demands.specs.Demand2.{table_in, end_of}
use Rattle.demands.specs.WrittenMoves.{Wrong, Means}

-- the text that a list was written as, and the records that a text was read into
abbrev pub text_written : Call write_line → List ℕ
text_written w = take w.after.1 w.after.0

abbrev pub records_read : Call read_line → List ℕ
records_read r = take (r.after.1 * 5) r.after.0

-- what C hands over as bytes
abbrev pub Octets : List ℕ → Type 0
Octets l = (k : ℕ) → get_or l k 0 ≤ 255

-- ---- the form of a line

-- a text in the form of a line: written moves whose columns, cells and digits are there, "separated by one space"
pub record InForm (text : List ℕ) : Type 0 where
  pub moves : List Jot
  pub well : AllWell moves
  pub is : line_text moves ≡ text

-- the first wrong character of a text: the characters before it can be completed to a line, with it they cannot; a text that is cut short
-- can be completed and is no line yet
pub record FirstWrong (text : List ℕ) (p : ℕ) : Type 0 where
  pub within : p ≤ length text
  pub before : (more : List ℕ) × InForm (take p text ++ more)
  pub there : p < length text → (more : List ℕ) → InForm (take (suc p) text ++ more) → ⊥
  pub none : InForm text → ⊥

-- ---- reading, move by move

-- a text is looked at: the board is well formed, and there is room for a list
pub record Ready (r : Call read_line) : Type 0 where
  pub board : GoodBoard r.input.0
  pub room : list_room ≤ length r.before.0

-- a text of at most 200 moves comes to this one: those before it were read from the same board by another call, and a replay of the
-- records that this call gave has the board that they leave
pub record ComesTo (r : Call read_line) (w : Jot) (later : List Jot) : Type 0 where
  pub ready : Ready r
  pub earlier : List Jot
  pub well : AllWell (earlier ++ (w ∷ later))
  pub is : line_text (earlier ++ (w ∷ later)) ≡ r.input.1
  pub few : length (earlier ++ (w ∷ later)) ≤ most_moves
  pub reads : Call read_line
  pub text : reads.input ≡ (r.input.0, line_text earlier)
  pub done : reads.number ≡ 0
  pub plays : Call replay
  pub list : plays.input ≡ (r.input.0, records_read reads)
  pub room : board_room ≤ length plays.before.0

-- the table that the moves before it leave
abbrev pub table_then : {r : Call read_line} {w : Jot} {later : List Jot} → ComesTo r w later → Table
table_then c = table_in (end_of c.plays)

-- the records of the moves before it and then that of a move, replayed from the same board
pub record PlaysOn {r : Call read_line} {w : Jot} {later : List Jot} (c : ComesTo r w later) (m : Move) (x : Call replay) : Type 0 where
  pub input : x.input ≡ (r.input.0, records_read c.reads ++ record_of m)
  pub room : board_room ≤ length x.before.0

-- ---- writing

-- the list that is to be written, replayed from the same board
pub record ReplayOf (w : Call write_line) (x : Call replay) : Type 0 where
  pub input : x.input ≡ w.input
  pub room : board_room ≤ length x.before.0

-- the record at a place is there, and is that of "a foundation-to-column move": kind 6
pub record IsSixth (list : List ℕ) (p : ℕ) : Type 0 where
  pub there : p * 5 < length list
  pub kind : get_or list (p * 5) 0 ≡ 6

pub record LinesOnPaper : Type 0 where
  -- "Reading what was written from the same board gives the same move records": with room for a list it is read, and they are the same bytes
  pub read_back : (w : Call write_line) (r : Call read_line) → w.number ≡ 0 → Octets w.input.1 → r.input.0 ≡ w.input.0 → r.input.1 ≡ text_written w
      → list_room ≤ length r.before.0 → (r.number ≡ 0) × (records_read r ≡ w.input.1)
  -- "and two different lists writable from one board never share a text"
  pub one_text : (v w : Call write_line) → v.number ≡ 0 → w.number ≡ 0 → Octets v.input.1 → Octets w.input.1 → v.input.0 ≡ w.input.0
      → text_written v ≡ text_written w → v.input.1 ≡ w.input.1
  -- what is read and then written is the text again
  pub again : (r : Call read_line) (w : Call write_line) → r.number ≡ 0 → w.input.0 ≡ r.input.0 → w.input.1 ≡ records_read r
      → text_room ≤ length w.before.0 → (w.number ≡ 0) × (text_written w ≡ r.input.1)
  -- no text is longer than the room that is asked for
  pub short : (w : Call write_line) → w.number ≡ 0 → Octets w.input.1 → length (text_written w) ≤ text_room
  -- "Refusals: reading, 12 to 15, ..": as corbelnib_examine refuses the board
  pub board : (r : Call read_line) (x : Call examine) → x.input ≡ r.input.0 → (x.number ≡ 0 → ⊥) → r.number ≡ x.number
  -- ".. 21, .."
  pub little_room : (r : Call read_line) → GoodBoard r.input.0 → length r.before.0 < list_room → r.number ≡ 21
  -- ".. 42 with the first wrong character's place (the length if cut short ..) for a text outside this form, ..": always, and only then
  pub outside : (r : Call read_line) → Ready r → (InForm r.input.1 → ⊥) → (r.number ≡ 42) × FirstWrong r.input.1 r.after.1
  pub first_wrong : (r : Call read_line) → r.number ≡ 42 → FirstWrong r.input.1 r.after.1
  -- ".. 31 past 200 moves, .."
  pub too_many : (r : Call read_line) → Ready r → (f : InForm r.input.1) → most_moves < length f.moves → r.number ≡ 31
  -- ".. then (ii)'s numbers with the move's place, where, in this order, ..": the first bad move's, on the table that those before it leave
  pub wrong_move : (r : Call read_line) (w : Jot) (later : List Jot) (c : ComesTo r w later) (n : ℕ) → Wrong (table_then c) w n
      → (r.number ≡ n) × (r.after.1 ≡ length c.earlier)
  -- if nothing of that is wrong with it, the number and the place that a replay of its record gives
  pub bad_move : (r : Call read_line) (w : Jot) (later : List Jot) (c : ComesTo r w later) (m : Move) → Means (table_then c) w m
      → (x : Call replay) → PlaysOn c m x → is_in x.number of_moves ≡ true → (r.number ≡ x.number) × (r.after.1 ≡ x.after.1)
  -- and if that can be played and no move comes after it, the text is read: its record comes after the others. The empty text has none
  pub one_more : (r : Call read_line) (w : Jot) (c : ComesTo r w []) (m : Move) → Means (table_then c) w m
      → (x : Call replay) → PlaysOn c m x → x.number ≡ 0 → (r.number ≡ 0) × (records_read r ≡ x.input.1)
  pub none : (r : Call read_line) → Ready r → r.input.1 ≡ [] → (r.number ≡ 0) × (records_read r ≡ [])
  -- "writing, replay's refusals first, ..": its number, and the place of a bad move
  pub replay_first : (w : Call write_line) (x : Call replay) → ReplayOf w x → (x.number ≡ 0 → ⊥)
      → (w.number ≡ x.number) × (is_in x.number of_moves ≡ true → w.after.1 ≡ x.after.1)
  -- ".. then 43 with the place of a foundation-to-column move, which the notation can't express, ..": the first such
  pub unwritable : (w : Call write_line) (x : Call replay) → ReplayOf w x → x.number ≡ 0 → (p : ℕ) → IsSixth w.input.1 p
      → ((k : ℕ) → k < p → IsSixth w.input.1 k → ⊥) → (w.number ≡ 43) × (w.after.1 ≡ p)
  -- ".. then 21, text room under 999 bytes"
  pub little_text : (w : Call write_line) (x : Call replay) → ReplayOf w x → x.number ≡ 0 → ((k : ℕ) → IsSixth w.input.1 k → ⊥)
      → length w.before.0 < text_room → w.number ≡ 21
  -- and any other list is written
  pub writes : (w : Call write_line) (x : Call replay) → ReplayOf w x → x.number ≡ 0 → ((k : ℕ) → IsSixth w.input.1 k → ⊥)
      → text_room ≤ length w.before.0 → w.number ≡ 0
  -- a refusal writes nothing: no record, no character
  pub keeps_list : (r : Call read_line) → (r.number ≡ 0 → ⊥) → r.after.0 ≡ r.before.0
  pub keeps_text : (w : Call write_line) → (w.number ≡ 0 → ⊥) → w.after.0 ≡ w.before.0
