-- How many cards may be moved at once.
use Rattle.std.specs.Prelude.{cond, List, [], ℕ, ◌+◌, ◌-◌, ◌*◌, ◌^◌, eqb, length, get_or}
use Rattle.questions.specs.Questions.{empty_cells, empty_columns}

-- the empty columns that help: not the one that is moved into
unfoldable pub usable : List (List ℕ) → ℕ → ℕ
usable columns to = empty_columns columns - cond (eqb (length (get_or columns to [])) 0) 1 0

-- one card, and one more for each empty cell; twice that for each empty column that helps
unfoldable pub most_moved : List ℕ → List (List ℕ) → ℕ → ℕ
most_moved cells columns to = (empty_cells cells + 1) * 2 ^ usable columns to
