-- What is known of the nodes in memory.
use Rattle.std.specs.Prelude.{◌≡◌, true, List, [], ◌∷◌, ℕ, ◌+◌, ◌*◌, ◌<◌, ◌≤◌, length}
use Rattle.board.specs.Table.{Table}
use Rattle.moves.specs.Record.{possible}
use Rattle.moves.specs.Play.{allowed}
use Rattle.candidates.specs.Children.{child_moves}
use Rattle.nodes.specs.Step.{record_in, move_in, cost_in, parent_at, step_at, cost_at}
use Rattle.nodes.specs.Line.{table_by, line_by, table_to, line_to}

-- a step that can be made on a table: it says a record, and the move is allowed
pub record Makes (t : Table) (w : ℕ) : Type 0 where
  pub told : possible (record_in w) ≡ true
  pub allows : allowed t (move_in w) ≡ true

-- a step's cost is what was spent before it and the moves that it makes on a table
pub record Costs (t : Table) (before w : ℕ) : Type 0 where
  pub sum : cost_in w ≡ before + length (child_moves t (move_in w))

-- steps, the last one first, of each of which something holds after those before it
abbrev pub AllSteps : (List ℕ → ℕ → Type 0) → List ℕ → Type 0
AllSteps P [] = Unit {0}
AllSteps P (w ∷ steps) = P steps w × AllSteps P steps

-- steps that can be made
abbrev pub AllMake : Table → List ℕ → Type 0
AllMake t = AllSteps (λ steps w. Makes (table_by t steps) w)

-- steps whose costs are the numbers of moves up to them
abbrev pub AllCost : Table → List ℕ → Type 0
AllCost t = AllSteps (λ steps w. Costs (table_by t steps) (length (line_by t steps)) w)

-- n nodes are there, each with an older parent
pub record Linked (words : List ℕ) (n : ℕ) : Type 0 where
  pub fits : n * 3 ≤ length words
  pub older : (i : ℕ) → 0 < i → i < n → parent_at words i < i

-- n nodes, the root on table t: each step can be made on its parent's table, and each cost is the number of moves, at most 200
pub record Nodes (t : Table) (words : List ℕ) (n : ℕ) : Type 0 where
  pub some : 1 ≤ n
  pub linked : Linked words n
  pub makes : (i : ℕ) → 0 < i → i < n → Makes (table_to t words (parent_at words i)) (step_at words i)
  pub cost : (i : ℕ) → i < n → cost_at words i ≡ length (line_to t words i)
  pub short : (i : ℕ) → i < n → length (line_to t words i) ≤ 200
