-- The plain questions about a board. Each is refused with 12 to 15 if the board is not fine, then with 30 for a place that is none.
use Rattle.card.specs.declared.Card.{Card}
use Rattle.std.specs.Prelude.{Bool, cond, List, [], ◌∷◌, ℕ, length, get_or, eqb, ltb, None, Some, Option}
use Rattle.base.specs.Words.{every, sum}
use Rattle.base.specs.Answer.{Answer, given, unless}
use Rattle.card.specs.Card.{card_of}
use Rattle.board.specs.Verdict.{after}
use Rattle.board.specs.Record.{examined, shown}
use Rattle.board.specs.declared.Board.{Board}

-- the top of a column is its last card
unfoldable pub top_of : List ℕ → Option Card
top_of [] = None
top_of (x ∷ []) = Some (card_of x)
top_of (x ∷ y ∷ l) = top_of (y ∷ l)

-- what a cell shows
unfoldable pub cell_of : ℕ → Option Card
cell_of x = cond (eqb x 255) None (Some (card_of x))

-- how many cards are home
unfoldable pub home_count : List ℕ → ℕ
home_count foundation = sum 4 (λ s. get_or foundation s 0)

unfoldable pub empty_cells : List ℕ → ℕ
empty_cells cells = sum 4 (λ i. cond (eqb (get_or cells i 0) 255) 1 0)

unfoldable pub empty_columns : List (List ℕ) → ℕ
empty_columns columns = sum 8 (λ i. cond (eqb (length (get_or columns i [])) 0) 1 0)

-- won: every suit is home up to its king
unfoldable pub won_on : List ℕ → Bool
won_on foundation = every 4 (λ s. eqb (get_or foundation s 0) 13)

unfoldable pub top_asked : Board → ℕ → Answer (Option Card)
top_asked b i = after (examined b) (unless (ltb i 8) 30 (given (top_of (get_or (shown b).columns i []))))

unfoldable pub cell_asked : Board → ℕ → Answer (Option Card)
cell_asked b i = after (examined b) (unless (ltb i 4) 30 (given (cell_of (get_or (shown b).cells i 0))))

unfoldable pub foundation_asked : Board → ℕ → Answer ℕ
foundation_asked b s = after (examined b) (unless (ltb s 4) 30 (given (get_or (shown b).foundation s 0)))

unfoldable pub home_asked : Board → Answer ℕ
home_asked b = after (examined b) (given (home_count (shown b).foundation))

unfoldable pub empty_cells_asked : Board → Answer ℕ
empty_cells_asked b = after (examined b) (given (empty_cells (shown b).cells))

unfoldable pub empty_columns_asked : Board → Answer ℕ
empty_columns_asked b = after (examined b) (given (empty_columns (shown b).columns))

unfoldable pub won_asked : Board → Answer Bool
won_asked b = after (examined b) (given (won_on (shown b).foundation))
