-- Request (ii), sentence by sentence: "Say why a move is refused."
use Rattle.std.specs.Prelude.{◌≡◌, true, false, List, ℕ, ◌*◌, ◌≤◌, length, get_or, take, drop}
use Rattle.board.specs.Table.{Table}
use Rattle.moves.specs.Record.{possible, move_of}
use Rattle.moves.specs.Causes.{Cause, cause_number, First}
use Rattle.crossing.specs.Wire.{board_room}
use Rattle.corbelnib.specs.Calls.{examine, move, replay, priority, Call, GoodBoard}
use Rattle.demands.specs.Demand1.{is_in, of_moves}
use Rattle.demands.specs.Demand2.{table_in, end_of}

-- what a number says of the move of a record on a table
pub record Says (number : ℕ) (t : Table) (bytes : List ℕ) : Type 0 where
  -- "30 a record not of five bytes, or kind, place, card code or count not possible in a record": before any cause against the move
  pub impossible : possible bytes ≡ false → number ≡ 30
  -- "Each number is given exactly when its cause holds and none earlier does": it is given then ..
  pub gives : possible bytes ≡ true → (w : Cause) → First t (move_of bytes) w → number ≡ cause_number w
  -- .. and only then
  pub only : possible bytes ≡ true → (w : Cause) → number ≡ cause_number w → First t (move_of bytes) w

-- the record at which a replay stopped: the one at the place that it told
abbrev pub record_at : Call replay → List ℕ
record_at c = take 5 (drop (c.after.1 * 5) c.input.1)

-- a second replay, of the records before that place, from the same board and with room for one
pub record UpTo (c d : Call replay) : Type 0 where
  pub board : d.input.0 ≡ c.input.0
  pub list : d.input.1 ≡ take (c.after.1 * 5) c.input.1
  pub room : board_room ≤ length d.before.0

-- it plays them all, and ends on the board that the first one handed back
pub record EndsThere (c d : Call replay) : Type 0 where
  pub done : d.number ≡ 0
  pub played : d.after.1 ≡ c.after.1
  pub board : end_of d ≡ end_of c

pub record WhyRefused : Type 0 where
  -- one move, and the priority of a move, on a well-formed board
  pub one : (c : Call move) → GoodBoard c.input.0 → Says c.number (table_in c.input.0) c.input.1
  pub preferred : (c : Call priority) → GoodBoard c.input.0 → Says c.number (table_in c.input.0) c.input.1
  -- "replay still gives the place of the first bad move": of a list of bytes, the number is that of the record there, on the board before it
  pub list : (c : Call replay) → ((k : ℕ) → get_or c.input.1 k 0 ≤ 255) → is_in c.number of_moves ≡ true → Says c.number (table_in (end_of c)) (record_at c)
  -- "and the board before it": the board that is handed back is that of the records before the place, which were all played
  pub before : (c d : Call replay) → ((k : ℕ) → get_or c.input.1 k 0 ≤ 255) → is_in c.number of_moves ≡ true → UpTo c d → EndsThere c d
  -- "after the board's own refusals": a board that is refused gives its own number, whatever the record
  pub board_first : (c : Call move) (x : Call examine) → x.input ≡ c.input.0 → (x.number ≡ 0 → ⊥) → c.number ≡ x.number
  pub board_preferred : (c : Call priority) (x : Call examine) → x.input ≡ c.input.0 → (x.number ≡ 0 → ⊥) → c.number ≡ x.number
