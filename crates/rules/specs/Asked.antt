-- The questions about laying cards: refused with 12 to 15 if the board is not fine, then with 30 for a place or a code that is none.
use Rattle.std.specs.Prelude.{Bool, ◌&&◌, [], ℕ, ltb, get_or}
use Rattle.base.specs.Answer.{Answer, given, unless}
use Rattle.card.specs.Card.{is_card}
use Rattle.board.specs.Verdict.{after}
use Rattle.board.specs.Record.{examined, shown}
use Rattle.board.specs.declared.Board.{Board}
use Rattle.rules.specs.Fit.{fits_on, home_takes}
use Rattle.runs.specs.Run.{run_length}
use Rattle.rules.specs.Limit.{most_moved}

unfoldable pub fit_asked : Board → ℕ → ℕ → Answer Bool
fit_asked b x i = after (examined b) (unless (is_card x && ltb i 8) 30 (given (fits_on (get_or (shown b).columns i []) x)))

unfoldable pub run_asked : Board → ℕ → Answer ℕ
run_asked b i = after (examined b) (unless (ltb i 8) 30 (given (run_length (get_or (shown b).columns i []))))

unfoldable pub most_asked : Board → ℕ → Answer ℕ
most_asked b i = after (examined b) (unless (ltb i 8) 30 (given (most_moved (shown b).cells (shown b).columns i)))

unfoldable pub takes_asked : Board → ℕ → Answer Bool
takes_asked b x = after (examined b) (unless (is_card x) 30 (given (home_takes (shown b).foundation x)))
