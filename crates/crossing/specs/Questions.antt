-- The plain questions that a table asks about a board: each tells one number behind a pointer, or writes one move.
use Rattle.card.specs.declared.Card.{Card}
use Rattle.std.specs.Prelude.{Bool, cond, List, [], ◌∷◌, ℕ, length, Some, Option, None}
use Rattle.base.specs.Answer.{Answer, given}
use Rattle.board.specs.Verdict.{after}
use Rattle.board.specs.Record.{examined, shown}
use Rattle.card.specs.Card.{code_of}
use Rattle.questions.specs.Questions.{top_asked, cell_asked, foundation_asked, won_asked}
use Rattle.rules.specs.Asked.{most_asked}
use Rattle.moves.specs.declared.Move.{Move}
use Rattle.moves.specs.Written.{written}
use Rattle.safe.specs.Safe.{first_safe}
use Rattle.crossing.specs.Crossing.{Left, left, crossed, asked, within}
use Rattle.crossing.specs.Values.{value_left}

-- the code of the card that lies on top, 255 if there is none
abbrev pub top_code : Option Card → ℕ
top_code (Some c) = code_of c
top_code None = 255

abbrev pub code_left : Answer (Option Card) → ℕ → Left ℕ
code_left a old = crossed a old (λ t. left 0 (top_code t))

-- the top of a column, and a cell: 12 to 15, then 30 for a place that is none
unfoldable pub top_left : List ℕ → ℕ → ℕ → Left ℕ
top_left board column old = code_left (asked board (λ b. top_asked b column)) old

unfoldable pub cell_left : List ℕ → ℕ → ℕ → Left ℕ
cell_left board cell old = code_left (asked board (λ b. cell_asked b cell)) old

-- how many cards of a suit are home: 12 to 15, then 30 for a suit that is none
unfoldable pub home_left : List ℕ → ℕ → ℕ → Left ℕ
home_left board suit old = value_left (asked board (λ b. foundation_asked b suit)) old

-- the most cards that may go to a column at once: 12 to 15, then 30 for a column that is none
unfoldable pub most_left : List ℕ → ℕ → ℕ → Left ℕ
most_left board column old = value_left (asked board (λ b. most_asked b column)) old

-- 1 for a won board, else 0
abbrev pub yes_left : Answer Bool → ℕ → Left ℕ
yes_left a old = crossed a old (λ t. left 0 (cond t 1 0))

unfoldable pub won_left : List ℕ → ℕ → Left ℕ
won_left board old = yes_left (asked board won_asked) old

-- ---- the first safe move

-- the moves of an answer: one, or none
abbrev pub safe_moves : Option Move → List Move
safe_moves (Some m) = m ∷ []
safe_moves None = []

-- its record at the start of the room, and 1; or 0 and nothing written; 21 for room under five bytes
abbrev pub first_left : Answer (Option Move) → List ℕ → ℕ → Left (List ℕ × ℕ)
first_left a room n =
    crossed (within 5 (length room) a) (room, n) (λ m. left 0 (written room 0 (safe_moves m), length (safe_moves m)))

-- 12 to 15, then 21
unfoldable pub safe_left : List ℕ → List ℕ → ℕ → Left (List ℕ × ℕ)
safe_left board room n = first_left (asked board (λ b. after (examined b) (given (first_safe (shown b))))) room n
