-- Safe play as it is asked for: 12 to 15 if the board is not fine, then 30 for a code that is no card's.
use Rattle.moves.specs.declared.Move.{Move}
use Rattle.std.specs.Prelude.{◌≡◌, Bool, ℕ, length, Option}
use Rattle.base.specs.Answer.{Answer, given, unless}
use Rattle.card.specs.Card.{is_card}
use Rattle.board.specs.Verdict.{after}
use Rattle.board.specs.Record.{examined, shown, board_of}
use Rattle.board.specs.Inner.{Sound}
use Rattle.board.specs.declared.Board.{Board}
use Rattle.safe.specs.Safe.{safe, first_safe}
use Rattle.replay.specs.Played.{after_moves}
use Rattle.safe.specs.Chain.{chain}
use Rattle.safe.specs.declared.Chained.{Chained}

unfoldable pub safe_asked : Board → ℕ → Answer Bool
safe_asked b x = after (examined b) (unless (is_card x) 30 (given (safe (shown b).foundation x)))

unfoldable pub first_asked : Board → Answer (Option Move)
first_asked b = after (examined b) (given (first_safe (shown b)))

-- the chain was played: the number of its moves, and the board after it
pub record Runs (b after : Board) (moves : ℕ) : Type 0 where
  pub many : moves ≡ length (chain (shown b))
  pub ends : after ≡ board_of (after_moves (shown b) (chain (shown b)))
  pub sound : Sound after

-- the number of the chain's moves and the board after it
unfoldable pub chained : Board → Chained
chained b = record { moves = length (chain (shown b)); board = board_of (after_moves (shown b) (chain (shown b))) }

unfoldable pub chain_asked : Board → Answer Chained
chain_asked b = after (examined b) (given (chained b))
