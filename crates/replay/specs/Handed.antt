-- What one move and replay hand back.
use Rattle.board.specs.Refusal.{answered}
use Rattle.std.specs.Prelude.{◌≡◌, Result}
use Rattle.base.specs.Answer.{Answer, given, refused}
use Rattle.board.specs.Verdict.{Verdict, fine}
use Rattle.board.specs.declared.Board.{Board}
use Rattle.replay.specs.Line.{Ending}
use Rattle.board.specs.declared.Refusal.{Refusal}
use Rattle.replay.specs.declared.Replayed.{Replayed}

abbrev pub verdict_of : Answer Board → Verdict
verdict_of (given c) = fine
verdict_of (refused n) = refused n

-- the board after the move, or the given one beside a refusal
abbrev pub board_or : Board → Answer Board → Board
board_or b (given c) = c
board_or b (refused n) = b

-- a move on b has this answer: what was said of it, and the board that it leaves
pub record Moves (b : Board) (a : Answer Board) (r : Result (Unit {0}) Refusal) (c : Board) : Type 0 where
  pub said : answered r ≡ verdict_of a
  pub board : c ≡ board_or b a

-- a replay ends so
pub record Ends (e : Ending) (r : Replayed) : Type 0 where
  pub said : answered r.said ≡ e.verdict
  pub moves : r.moves ≡ e.moves
  pub board : r.board ≡ e.board
