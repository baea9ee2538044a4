-- The priority of a move as it is asked for: refused as one move is, with 12 to 15, 30 and then the number of the first cause against it.
use Rattle.std.specs.Prelude.{List, ℕ, ℤ}
use Rattle.base.specs.Answer.{Answer, given, refused}
use Rattle.board.specs.Table.{Table}
use Rattle.board.specs.Verdict.{after}
use Rattle.board.specs.Record.{examined, shown}
use Rattle.board.specs.declared.Board.{Board}
use Rattle.moves.specs.Record.{move_asked}
use Rattle.moves.specs.Causes.{ruling}
use Rattle.moves.specs.declared.Move.{Move}
use Rattle.priority.specs.Priority.{priority_on}

abbrev pub priority_by : Table → Answer Move → Answer ℤ
priority_by t (given m) = after (ruling t m) (given (priority_on t m))
priority_by t (refused n) = refused n

unfoldable pub priority_asked : Board → List ℕ → Answer ℤ
priority_asked b bytes = after (examined b) (priority_by (shown b) (move_asked bytes))
