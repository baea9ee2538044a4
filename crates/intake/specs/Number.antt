-- Hands by number: players ask for "number 617".
use Rattle.std.specs.Prelude.{Bool, ◌&&◌, ℕ, leb}
use Rattle.base.specs.Answer.{Answer, given, unless}
use Rattle.shuffle.specs.Shuffle.{deck_of}
use Rattle.board.specs.Record.{board_of}
use Rattle.board.specs.declared.Board.{Board}
use Rattle.intake.specs.Deal.{dealt}

-- the numbers that hands have
unfoldable pub is_number : ℕ → Bool
is_number n = leb 1 n && leb n 32000

-- 41: no hand has the number; else its deck is dealt
unfoldable pub number_asked : ℕ → Answer Board
number_asked n = unless (is_number n) 41 (given (board_of (dealt (deck_of n))))
