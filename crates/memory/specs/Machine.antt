-- What holds of the memory between two steps of a search.
use Rattle.std.specs.Prelude.{◌≡◌, true, List, [], ◌∷◌, ℕ, ◌%◌, ◌<◌, ◌≤◌}
use Rattle.board.specs.Table.{Table}
use Rattle.frontier.specs.Heap.{Heap, bag}
use Rattle.costs.specs.Entries.{holds, used}
use Rattle.costs.specs.Table as costs
use Rattle.signature.specs.Signed.{signature_of}
use Rattle.features.specs.Features.{features_of}
use Rattle.score.specs.Scores.{progress_key}
use Rattle.nodes.specs.Step.{slot_at}
use Rattle.nodes.specs.Line.{table_to}
use Rattle.nodes.specs.Nodes.{Nodes}
use Rattle.memory.specs.declared.Room.{Room}
use Rattle.memory.specs.declared.Counts.{Counts}
use Rattle.memory.specs.Memory.{Memory, Fits}
use Rattle.memory.specs.View.{key_of}

-- the root lies on table t
module _ (t : Table) where
  -- a key is its node's, and the node is born
  pub record Keyed (words : List ℕ) (n key : ℕ) : Type 0 where
    pub born : key % 4294967296 < n
    pub own : key ≡ key_of t words (key % 4294967296)

  abbrev pub AllKeyed : List ℕ → ℕ → List ℕ → Type 0
  AllKeyed words n [] = Unit {0}
  AllKeyed words n (key ∷ l) = Keyed words n key × AllKeyed words n l

  -- node i's entry in the table is for its board
  pub record Slotted (m : Memory) (entries i : ℕ) : Type 0 where
    pub within : slot_at m.nodes i < entries
    pub own : holds m.keys m.costs (slot_at m.nodes i) (signature_of (table_to t m.nodes i)) ≡ true

  pub record Machine (r : Room) (m : Memory) (c : Counts) : Type 0 where
    pub room : Fits r m
    pub nodes : Nodes t m.nodes c.born
    pub within : c.born ≤ r.capacity
    -- the nodes that wait
    pub heap : Heap m.heap c.waiting
    pub waits : c.waiting ≤ c.born
    pub keyed : AllKeyed m.nodes c.born (bag m.heap c.waiting)
    -- the table of costs
    pub table : costs.Table m.keys m.costs r.entries
    pub slots : (i : ℕ) → i < c.born → Slotted m r.entries i
    pub used : used m.costs r.entries ≤ c.born
    -- the best so far
    pub best : c.best < c.born
    pub progress : c.progress ≡ progress_key (features_of (table_to t m.nodes c.best))
