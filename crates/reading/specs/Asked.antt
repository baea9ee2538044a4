-- A line read as it is asked for: what is told, and what is left in the lent list. A refusal changes nothing.
use Rattle.std.specs.Prelude.{◌≡◌, List, ℕ, leb, length, Result}
use Rattle.base.specs.Answer.{unless}
use Rattle.board.specs.Verdict.{fine, after}
use Rattle.board.specs.Record.{examined, shown}
use Rattle.board.specs.declared.Board.{Board}
use Rattle.moves.specs.Written.{list_room, written}
use Rattle.moves.specs.declared.Move.{Move}
use Rattle.sense.specs.Outcome.{Outcome, gives, refuses, refuses_at, checked, counted, line_told}
use Rattle.reading.specs.Lines.{line_read}
use Rattle.sense.specs.declared.LineError.{LineError}

-- 12 to 15, then 21 for a list buffer with too little room, then what the line says
unfoldable pub read_asked : Board → List ℕ → ℕ → Outcome (List Move)
read_asked b text lent = checked (after (examined b) (unless (leb list_room lent) 21 fine)) (line_read (shown b) text)

-- the list buffer then: the records from its start
abbrev pub list_after : Outcome (List Move) → List ℕ → List ℕ
list_after (gives ms) old = written old 0 ms
list_after (refuses n) old = old
list_after (refuses_at n p) old = old

-- a text is read into a list buffer
pub record Reads (b : Board) (text old new : List ℕ) (r : Result ℕ LineError) : Type 0 where
  pub told : line_told r ≡ counted (read_asked b text (length old))
  pub room : new ≡ list_after (read_asked b text (length old)) old
