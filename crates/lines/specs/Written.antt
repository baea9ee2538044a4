-- Moves written into lent room while they are played on a board.
use Rattle.std.specs.Prelude.{◌≡◌, List, ℕ}
use Rattle.board.specs.Record.{shown, board_of}
use Rattle.board.specs.Inner.{Sound}
use Rattle.board.specs.declared.Board.{Board}
use Rattle.moves.specs.declared.Move.{Move}
use Rattle.replay.specs.Played.{after_moves}
use Rattle.moves.specs.Written.{Adds}
use Rattle.lines.specs.declared.Written.{Written}

-- their records after the first n, every other byte as it was; and the board after them
pub record Writes (b : Board) (ms : List Move) (old new : List ℕ) (n : ℕ) (r : Written) : Type 0 where
  pub adds : Adds old new n r.records ms
  pub board : r.board ≡ board_of (after_moves (shown b) ms)
  pub sound : Sound r.board
