-- The lent memory of a search, and what has to fit into it.
use Rattle.std.specs.Prelude.{List, ℕ, ◌*◌, ◌<◌, ◌≤◌, length}
use Rattle.memory.specs.declared.Room.{Room}

-- three words a node; the keys of the nodes that wait; the table of costs: keys and costs
pub record Memory : Type 0 where
  pub nodes : List ℕ
  pub heap : List ℕ
  pub keys : List ℕ
  pub costs : List ℕ

-- a memory of these four parts
abbrev pub lent : List ℕ → List ℕ → List ℕ → List ℕ → Memory
lent nodes heap keys costs = record { nodes = nodes; heap = heap; keys = keys; costs = costs }

-- there is room for so many nodes; the table has an entry more, so that one is always free
pub record Fits (r : Room) (m : Memory) : Type 0 where
  pub few : r.capacity < 4294967296
  pub words : r.capacity * 3 ≤ length m.nodes
  pub waits : r.capacity ≤ length m.heap
  pub spare : r.capacity < r.entries
