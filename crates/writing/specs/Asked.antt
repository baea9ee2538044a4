-- A list written as it is asked for: what is told, and what is left in the lent room. A refusal changes nothing.
use Rattle.std.specs.Prelude.{◌≡◌, List, [], ◌∷◌, ℕ, eqb, leb, length, Result}
use Rattle.base.specs.Answer.{unless}
use Rattle.base.specs.Put.{over}
use Rattle.board.specs.Verdict.{fine, after}
use Rattle.board.specs.Record.{examined, shown}
use Rattle.board.specs.declared.Board.{Board}
use Rattle.moves.specs.Record.{move_of}
use Rattle.moves.specs.declared.Move.{Move}
use Rattle.replay.specs.Line.{Ending, line_from, records_in, is_line}
use Rattle.sense.specs.Outcome.{Outcome, gives, refuses, refuses_at, checked, checked_at, counted, line_told}
use Rattle.writing.specs.Lines.{text_of, writable_first}
use Rattle.sense.specs.declared.LineError.{LineError}

-- 200 moves of four signs, 199 spaces
abbrev pub text_room : ℕ
text_room = 999

-- the moves of some records
unfoldable pub moves_of : List (List ℕ) → List Move
moves_of [] = []
moves_of (r ∷ rs) = move_of r ∷ moves_of rs

-- the moves of a list's bytes
unfoldable pub moves_in : List ℕ → List Move
moves_in bytes = moves_of (records_in bytes)

-- on if each move can be played
abbrev pub played_through : {A : Type 0} → Ending → Outcome A → Outcome A
played_through e o = checked_at e.verdict e.moves o

-- on if each move can be written
abbrev pub written_through : {A : Type 0} → List Move → Outcome A → Outcome A
written_through ms o = checked_at (unless (eqb (writable_first ms) (length ms)) 43 fine) (writable_first ms) o

-- 12 to 15, 31, the first bad move; then 43 with the place of a move that cannot be written; then 21 for too little room
unfoldable pub write_asked : Board → List ℕ → ℕ → Outcome (List ℕ)
write_asked b bytes lent =
    checked (after (examined b) (unless (is_line bytes) 31 fine))
    (played_through (line_from b (records_in bytes))
    (written_through (moves_in bytes) (checked (unless (leb text_room lent) 21 fine) (gives (text_of (shown b) (moves_in bytes))))))

-- the lent room then: the text from its start
abbrev pub text_after : Outcome (List ℕ) → List ℕ → List ℕ
text_after (gives text) old = over text old
text_after (refuses n) old = old
text_after (refuses_at n p) old = old

-- a list of moves is written into lent room
pub record Writes (b : Board) (bytes old new : List ℕ) (r : Result ℕ LineError) : Type 0 where
  pub told : line_told r ≡ counted (write_asked b bytes (length old))
  pub room : new ≡ text_after (write_asked b bytes (length old)) old
