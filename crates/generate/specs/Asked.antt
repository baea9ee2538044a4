-- Moves listed: their records written into lent room, their number told; 12 to 15 if the board is not fine, then 21 for too little room.
use Rattle.board.specs.Refusal.{answered}
use Rattle.board.specs.declared.Refusal.{Refusal}
use Rattle.std.specs.Prelude.{◌≡◌, List, ℕ, leb, length, Result}
use Rattle.base.specs.Answer.{Answer, given, refused, unless}
use Rattle.board.specs.Verdict.{after}
use Rattle.board.specs.Record.{examined}
use Rattle.board.specs.declared.Board.{Board}
use Rattle.moves.specs.declared.Move.{Move}
use Rattle.moves.specs.Written.{written}

-- room for 836 records
abbrev pub record_room : ℕ
record_room = 4180

-- how many moves there are to list, asked with so much room
unfoldable pub found_asked : Board → List Move → ℕ → Answer ℕ
found_asked b ms lent = after (examined b) (unless (leb record_room lent) 21 (given (length ms)))

-- the room after an answer: a refusal changes nothing
abbrev pub room_after : Answer ℕ → List ℕ → List Move → List ℕ
room_after (given n) old ms = written old 0 ms
room_after (refused n) old ms = old

-- an entry point lists these moves of a board: the number it tells, and the room it leaves
pub record Finds (b : Board) (ms : List Move) (old new : List ℕ) (r : Result ℕ Refusal) : Type 0 where
  pub told : answered r ≡ found_asked b ms (length old)
  pub room : new ≡ room_after (found_asked b ms (length old)) old ms
