-- Lines on paper: a text read into a list, and a list written as a text, at the start of lent room; every other byte stays.
use Rattle.std.specs.Prelude.{List, ℕ, eqb, length}
use Rattle.base.specs.Answer.{unless}
use Rattle.board.specs.Verdict.{fine}
use Rattle.board.specs.declared.Board.{Board}
use Rattle.moves.specs.declared.Move.{Move}
use Rattle.sense.specs.Outcome.{Outcome, gives, refuses, refuses_at, checked, counted}
use Rattle.reading.specs.Asked.{read_asked, list_after}
use Rattle.writing.specs.Asked.{write_asked, text_after}
use Rattle.crossing.specs.Wire.{board_room, board_in}
use Rattle.crossing.specs.Crossing.{Left, left}

-- a question about the board that some bytes are: 12 for any other number of bytes
abbrev pub line_asked : {A : Type 0} → List ℕ → (Board → Outcome A) → Outcome A
line_asked bytes question = checked (unless (eqb (length bytes) board_room) 12 fine) (question (board_in bytes))

-- how many moves were read or bytes written; a refusal that knows a place tells it there, any other tells nothing
abbrev pub count_left : Outcome ℕ → ℕ → Left ℕ
count_left (gives n) old = left 0 n
count_left (refuses k) old = left k old
count_left (refuses_at k p) old = left k p

-- with the lent room as it is then
abbrev pub with_room : List ℕ → Left ℕ → Left (List ℕ × ℕ)
with_room room l = left l.number (room, l.places)

abbrev pub read_by : Outcome (List Move) → List ℕ → ℕ → Left (List ℕ × ℕ)
read_by o list n = with_room (list_after o list) (count_left (counted o) n)

abbrev pub written_by : Outcome (List ℕ) → List ℕ → ℕ → Left (List ℕ × ℕ)
written_by o text n = with_room (text_after o text) (count_left (counted o) n)

-- a text is read into a list: 12 to 15, 21, 42 with a place, 31, then the number of a move with its place
unfoldable pub line_read_left : List ℕ → List ℕ → List ℕ → ℕ → Left (List ℕ × ℕ)
line_read_left board text list n = read_by (line_asked board (λ b. read_asked b text (length list))) list n

-- a list is written as a text: 12 to 15, 31, the number of a bad move with its place, 43 with a place, 21
unfoldable pub line_written_left : List ℕ → List ℕ → List ℕ → ℕ → Left (List ℕ × ℕ)
line_written_left board list text n = written_by (line_asked board (λ b. write_asked b list (length text))) text n
