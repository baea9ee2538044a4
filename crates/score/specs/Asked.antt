-- Features, scores and token as they are asked for: 12 to 15 if the board is not fine; for the token then 21 for too little room.
use Rattle.board.specs.declared.Refusal.{Refusal}
use Rattle.std.specs.Prelude.{◌≡◌, List, ℕ, leb, ℤ, length, Result}
use Rattle.base.specs.Answer.{Answer, given, refused, unless}
use Rattle.board.specs.Verdict.{after}
use Rattle.board.specs.Record.{examined, shown}
use Rattle.board.specs.Refusal.{answered}
use Rattle.board.specs.declared.Board.{Board}
use Rattle.features.specs.Features.{features_of}
use Rattle.score.specs.Scores.{heuristic, progress}
use Rattle.score.specs.Token.{token_of}
use Rattle.features.specs.declared.Features.{Features}
use Rattle.base.specs.Put.{over}

unfoldable pub features_asked : Board → Answer Features
features_asked b = after (examined b) (given (features_of (shown b)))

unfoldable pub heuristic_asked : Board → Answer ℤ
heuristic_asked b = after (examined b) (given (heuristic (features_of (shown b))))

unfoldable pub progress_asked : Board → Answer ℤ
progress_asked b = after (examined b) (given (progress (features_of (shown b))))

-- ---- the token, into lent room

abbrev pub token_room : ℕ
token_room = 32

-- how many bytes the token has, asked with so much room
unfoldable pub token_asked : Board → ℕ → Answer ℕ
token_asked b lent = after (examined b) (unless (leb token_room lent) 21 (given (length (token_of (features_of (shown b))))))

-- the room after an answer: a refusal changes nothing
abbrev pub room_after : Answer ℕ → List ℕ → List ℕ → List ℕ
room_after (given n) old new = over new old
room_after (refused n) old new = old

-- the token is written: the number of bytes told, and the room left
pub record Writes (b : Board) (old new : List ℕ) (r : Result ℕ Refusal) : Type 0 where
  pub told : answered r ≡ token_asked b (length old)
  pub room : new ≡ room_after (token_asked b (length old)) old (token_of (features_of (shown b)))
