-- One move, said by its record, on a board: 30 for a record that is impossible, then the number of the first cause against the move.
use Rattle.std.specs.Prelude.{List, ℕ}
use Rattle.base.specs.Answer.{Answer, given, refused}
use Rattle.board.specs.Table.{Table}
use Rattle.board.specs.Verdict.{after}
use Rattle.board.specs.Record.{examined, shown, board_of}
use Rattle.board.specs.declared.Board.{Board}
use Rattle.moves.specs.Record.{move_asked}
use Rattle.moves.specs.Causes.{played}
use Rattle.moves.specs.declared.Move.{Move}

-- the record of the table that was reached
abbrev pub recorded : Answer Table → Answer Board
recorded (given t) = given (board_of t)
recorded (refused n) = refused n

-- the move that was asked for, played on a board
abbrev pub played_on : Board → Answer Move → Answer Board
played_on b (given m) = recorded (played (shown b) m)
played_on b (refused n) = refused n

unfoldable pub stepped : Board → List ℕ → Answer Board
stepped b bytes = played_on b (move_asked bytes)

-- 12 to 15 if the board is not fine, then 30, 33, 35, 34, 36 to 40
unfoldable pub move_made : Board → List ℕ → Answer Board
move_made b bytes = after (examined b) (stepped b bytes)
