-- The state of a search as its memory shows it: a function from the memory to the state of the definition.
use Rattle.std.specs.Prelude.{List, [], ◌∷◌, ℕ, ◌+◌, ◌%◌, length, None, Some, Option}
use Rattle.board.specs.Table.{Table}
use Rattle.frontier.specs.Heap.{bag}
use Rattle.frontier.specs.Packing.{packed}
use Rattle.signature.specs.Signed.{signature_of}
use Rattle.features.specs.Features.{features_of}
use Rattle.score.specs.Scores.{heuristic_key}
use Rattle.nodes.specs.Line.{line_to, table_to}
use Rattle.search.specs.Freecell.{freecell}
use Rattle.search.specs.Solve.{Perhaps, none, some, Node, State, Grown, out_of_nodes, grown, End, won, limit, exhausted, out_of_nodes_at, Turn, over, again}
use Rattle.costs.specs.CostIn.{KnownCost, unknown, known, cost_in}
use Rattle.memory.specs.declared.Room.{Room}
use Rattle.memory.specs.declared.Counts.{Counts}
use Rattle.memory.specs.declared.Advance.{Advance}
use Rattle.memory.specs.declared.Advance.TheVariants as advance
use Rattle.memory.specs.declared.Ended.{Ended}
use Rattle.memory.specs.declared.Ended.TheVariants as ended
use Rattle.memory.specs.Memory.{Memory}

-- what the table of costs tells, in the definition's words
abbrev pub told : KnownCost → Perhaps ℕ
told unknown = none
told (known c) = some c

-- what is known of a board: the table is asked by its signature
unfoldable pub known_in : Room → Memory → Table → Perhaps ℕ
known_in r m u = told (cost_in m.keys m.costs r.entries (signature_of u))

-- the root lies on table t
module _ (t : Table) where
  unfoldable pub node_of : List ℕ → ℕ → Node freecell
  node_of words i = record { number = i; line = line_to t words i; board = table_to t words i }

  -- the key of node i: by cost + heuristic, then by heuristic, then by number
  unfoldable pub key_of : List ℕ → ℕ → ℕ
  key_of words i =
      packed (length (line_to t words i) + heuristic_key (features_of (table_to t words i))) (heuristic_key (features_of (table_to t words i))) i

  -- the nodes that some keys are for
  unfoldable pub nodes_by : List ℕ → List ℕ → List (Node freecell)
  nodes_by words [] = []
  nodes_by words (key ∷ l) = node_of words (key % 4294967296) ∷ nodes_by words l

  unfoldable pub state_of : Room → Memory → Counts → State freecell
  state_of r m c =
      record {
        born = c.born;
        waiting = nodes_by m.nodes (bag m.heap c.waiting);
        known = known_in r m;
        best = node_of m.nodes c.best;
        pops = c.pops;
      }

  -- ---- how steps end

  abbrev pub grown_of : Room → Memory → Option Counts → Grown freecell
  grown_of r m None = out_of_nodes
  grown_of r m (Some c) = grown (state_of r m c)

  abbrev pub turn_of : Room → Memory → Advance → Turn freecell
  turn_of r m (advance.Again c) = again (state_of r m c)
  turn_of r m (advance.WonBy i c) = over (won (line_to t m.nodes i) c.pops)
  turn_of r m (advance.OutOfNodes pops) = over (out_of_nodes_at pops)

  abbrev pub end_of : Room → Memory → Ended → End freecell
  end_of r m (ended.Won i c) = won (line_to t m.nodes i) c.pops
  end_of r m (ended.Limit c) = limit (state_of r m c)
  end_of r m (ended.Exhausted c) = exhausted (state_of r m c)
  end_of r m (ended.OutOfNodes pops) = out_of_nodes_at pops
