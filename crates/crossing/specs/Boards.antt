-- The calls that hand back a board, at the start of lent room; every other byte stays.
use Rattle.std.specs.Prelude.{List, ℕ, length}
use Rattle.base.specs.Answer.{Answer, given, unless}
use Rattle.board.specs.Verdict.{fine, after}
use Rattle.board.specs.Record.{examined, shown, board_of}
use Rattle.board.specs.declared.Board.{Board}
use Rattle.intake.specs.Image.{image_read}
use Rattle.intake.specs.Deal.{deal_asked}
use Rattle.intake.specs.Number.{number_asked}
use Rattle.replay.specs.Step.{move_made}
use Rattle.replay.specs.Line.{Ending, line_from, records_in, is_line}
use Rattle.replay.specs.Played.{after_moves}
use Rattle.safe.specs.Chain.{chain}
use Rattle.base.specs.Put.{over}
use Rattle.crossing.specs.Wire.{board_room, bytes_of}
use Rattle.crossing.specs.Crossing.{Left, left, told, crossed, asked, within}

-- the board of an answer goes into lent room: 21 for too little of it, after the answer's own refusals
unfoldable pub board_left : Answer Board → List ℕ → Left (List ℕ)
board_left a room = crossed (within board_room (length room) a) room (λ b. left 0 (over (bytes_of b) room))

-- a board from its image
unfoldable pub read_left : List ℕ → List ℕ → Left (List ℕ)
read_left image room = board_left (image_read image) room

-- a board from a deck
unfoldable pub deal_left : List ℕ → List ℕ → Left (List ℕ)
deal_left deck room = board_left (deal_asked deck) room

-- the hand of a number
unfoldable pub number_left : ℕ → List ℕ → Left (List ℕ)
number_left n room = board_left (number_asked n) room

-- the board after the move of a record
unfoldable pub move_left : List ℕ → List ℕ → List ℕ → Left (List ℕ)
move_left board bytes room = board_left (asked board (λ b. move_made b bytes)) room

-- ---- a line of moves: the board where it ends, and how many moves were played

-- the number is the verdict's: 0, or that of a bad move
unfoldable pub line_left : Answer Ending → List ℕ → ℕ → Left (List ℕ × ℕ)
line_left a room n =
    crossed (within board_room (length room) a) (room, n) (λ e. left (told e.verdict) (over (bytes_of e.board) room, e.moves))

-- a list of moves from a board: 12 to 15, 31, 21; a bad move stops the line, and its number is told with the board before it
unfoldable pub replay_left : List ℕ → List ℕ → List ℕ → ℕ → Left (List ℕ × ℕ)
replay_left board list room n =
    line_left (asked board (λ b. after (examined b) (unless (is_line list) 31 (given (line_from b (records_in list)))))) room n

-- the chain of safe moves, which none stops
unfoldable pub chained : Board → Ending
chained b = record { verdict = fine; moves = length (chain (shown b)); board = board_of (after_moves (shown b) (chain (shown b))) }

-- 12 to 15, then 21
unfoldable pub chain_left : List ℕ → List ℕ → ℕ → Left (List ℕ × ℕ)
chain_left board room n = line_left (asked board (λ b. after (examined b) (given (chained b)))) room n
