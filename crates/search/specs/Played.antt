-- What theorem T1 (proofs/Judge.antt) claims of a list that FreeCell's search answers with.
use Rattle.std.specs.Prelude.{◌≡◌, Bool, true, false, List, ℕ, ◌<◌, ◌≤◌, ℤ, length}
use Rattle.base.specs.Words.{occurs}
use Rattle.card.specs.Pack.{card_at}
use Rattle.board.specs.Table.{Table, cards_on}
use Rattle.board.specs.Verdict.{fine}
use Rattle.board.specs.Record.{shown, board_of}
use Rattle.board.specs.declared.Board.{Board}
use Rattle.questions.specs.Questions.{won_on}
use Rattle.moves.specs.declared.Move.{Move}
use Rattle.replay.specs.Played.{after_moves, Legal, records_of}
use Rattle.replay.specs.Line.{line_from}
use Rattle.features.specs.Features.{features_of}
use Rattle.score.specs.Scores.{progress}

-- the last board of a list is won
abbrev pub ends_won : Table → List Move → Bool
ends_won t l = won_on (after_moves t l).foundation

-- a list played from a board, answered with a number
pub record PlayedOut (b : Board) (number : ℕ) (l : List Move) : Type 0 where
  -- each move is allowed when its turn comes, and replaying the records of the list ends well on the table after it
  pub legal : Legal (shown b) l
  pub replays : line_from b (records_of l) ≡ record { verdict = fine; moves = length l; board = board_of (after_moves (shown b) l) }
  pub short : length l ≤ 200
  -- the table after it has the same cards, each of the 52 once
  pub cards : (x : ℕ) → occurs x (cards_on (after_moves (shown b) l)) ≡ occurs x (cards_on (shown b))
  pub pack : (k : ℕ) → k < 52 → occurs (card_at k) (cards_on (after_moves (shown b) l)) ≡ 1
  -- 0 and 5 mean that the table after it is won, 1 that it is not
  pub wins : number ≡ 0 → ends_won (shown b) l ≡ true
  pub finishes : number ≡ 5 → ends_won (shown b) l ≡ true
  pub unfinished : number ≡ 1 → ends_won (shown b) l ≡ false

-- demand 3's final score: the progress score of the last board of a list
unfoldable pub final_score : Table → List Move → ℤ
final_score t l = progress (features_of (after_moves t l))
