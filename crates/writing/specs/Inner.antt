-- What the inner functions of the writer ask for and promise.
use Rattle.board.specs.Refusal.{answered}
use Rattle.std.specs.Prelude.{◌≡◌, true, cond, List, [], ◌∷◌, ◌++◌, ℕ, ◌+◌, ◌<◌, ◌≤◌, eqb, length, Option, Some, None}
use Rattle.base.specs.Put.{Puts}
use Rattle.board.specs.Verdict.{fine}
use Rattle.board.specs.Record.{shown}
use Rattle.board.specs.Inner.{Sound}
use Rattle.board.specs.declared.Board.{Board}
use Rattle.moves.specs.Record.{possible, move_of}
use Rattle.moves.specs.Play.{allowed, after_move}
use Rattle.moves.specs.declared.Move.{Move}
use Rattle.play.specs.Change.{Becomes}
use Rattle.replay.specs.Line.{Ending, line_from, records_in, is_line}
use Rattle.replay.specs.declared.Stopped.{Stopped}
use Rattle.notation.specs.Jot.{space, jot_text}
use Rattle.sense.specs.Meant.{jot_of}
use Rattle.writing.specs.Lines.{text_of, writable_first}
use Rattle.writing.specs.Asked.{moves_in}
use Rattle.notation.specs.declared.Jot.{Jot}

-- a space before each move but the first, which stands at the start of the room
unfoldable pub gap : ℕ → List ℕ
gap at = cond (eqb at 0) [] (space ∷ [])

-- the next move, written at a place
unfoldable pub next_text : ℕ → Jot → List ℕ
next_text at j = gap at ++ jot_text j

-- a record that can be played on a board, and room for what is written for it
pub record Next (b : Board) (bytes : List ℕ) (at room : ℕ) : Type 0 where
  pub sound : Sound b
  pub can : possible bytes ≡ true
  pub ok : allowed (shown b) (move_of bytes) ≡ true
  pub fits : at + length (next_text at (jot_of (shown b) (move_of bytes))) ≤ room

-- it is written, and played
pub record Notes (b : Board) (bytes old new : List ℕ) (at r : ℕ) (then : Board) : Type 0 where
  pub puts : Puts old new at r (next_text at (jot_of (shown b) (move_of bytes)))
  pub becomes : Becomes then (after_move (shown b) (move_of bytes))
  pub sound : Sound then

-- a list that can be played from a board, and room for its text
pub record Whole (b : Board) (bytes : List ℕ) (room : ℕ) : Type 0 where
  pub sound : Sound b
  pub line : is_line bytes ≡ true
  pub plays : (line_from b (records_in bytes)).verdict ≡ fine
  pub fits : length (text_of (shown b) (moves_in bytes)) ≤ room

-- the place of the first move that cannot be written, if there is one
abbrev pub Unwritable : List Move → Option ℕ → Type 0
Unwritable ms None = writable_first ms ≡ length ms
Unwritable ms (Some place) = (place ≡ writable_first ms) × (place < length ms)

-- how a replay ends, without its board
pub record Stops (e : Ending) (r : Stopped) : Type 0 where
  pub said : answered r.said ≡ e.verdict
  pub moves : r.moves ≡ e.moves
