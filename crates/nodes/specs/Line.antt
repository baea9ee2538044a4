-- The line of a node: all moves from the root to it, and the table that they lead to.
use Rattle.std.specs.Prelude.{List, [], ◌∷◌, ◌++◌, ℕ, zero, suc}
use Rattle.board.specs.Table.{Table}
use Rattle.moves.specs.declared.Move.{Move}
use Rattle.candidates.specs.Children.{child_moves, child_table}
use Rattle.nodes.specs.Step.{move_in, parent_at, step_at}

-- the steps from node i up to the root, the last one first; node 0 is the root; at most `fuel` parents are asked
unfoldable pub steps_up : List ℕ → ℕ → ℕ → List ℕ
steps_up words zero i = []
steps_up words (suc fuel) zero = []
steps_up words (suc fuel) (suc k) = step_at words (suc k) ∷ steps_up words fuel (parent_at words (suc k))

-- parents are older, so that node i has at most i of them
unfoldable pub steps_to : List ℕ → ℕ → List ℕ
steps_to words i = steps_up words i i

-- the table after some steps, the last one first: each is a move and the chain after it
unfoldable pub table_by : Table → List ℕ → Table
table_by t [] = t
table_by t (w ∷ steps) = child_table (table_by t steps) (move_in w)

-- all their moves
unfoldable pub line_by : Table → List ℕ → List Move
line_by t [] = []
line_by t (w ∷ steps) = line_by t steps ++ child_moves (table_by t steps) (move_in w)

unfoldable pub table_to : Table → List ℕ → ℕ → Table
table_to t words i = table_by t (steps_to words i)

unfoldable pub line_to : Table → List ℕ → ℕ → List Move
line_to t words i = line_by t (steps_to words i)
