-- What the start, one child and one taking do to the memory.
use Rattle.std.specs.Prelude.{◌≡◌, cond, List, ◌⊎◌, ℕ, ◌+◌, ◌-◌, ◌≤◌, ltb, length, get_or}
use Rattle.board.specs.Table.{Table}
use Rattle.moves.specs.declared.Move.{Move}
use Rattle.frontier.specs.Heap as frontier
use Rattle.frontier.specs.Packing.{packed}
use Rattle.costs.specs.Promises.{Held, Vacant, Stores}
use Rattle.signature.specs.Signed.{signature_of}
use Rattle.features.specs.Features.{features_of}
use Rattle.score.specs.Scores.{heuristic_key, progress_key}
use Rattle.nodes.specs.Step as nodes
use Rattle.memory.specs.declared.Room.{Room}
use Rattle.memory.specs.declared.Counts.{Counts}
use Rattle.memory.specs.Memory.{Memory, Fits, lent}

-- ---- the start

-- there is room for a node at least, and every cost byte is 0
pub record Blank (r : Room) (m : Memory) : Type 0 where
  pub room : Fits r m
  pub some : 1 ≤ r.capacity
  pub most : r.entries ≤ 4294967296
  pub keyed : r.entries ≤ length m.keys
  pub costed : r.entries ≤ length m.costs
  pub free : (i : ℕ) → get_or m.costs i 0 ≡ 0

-- the root was written: its node, its entry, its key
pub record Rooted (t : Table) (r : Room) (m new : Memory) (slot : ℕ) : Type 0 where
  pub spot : Vacant m.keys m.costs r.entries (signature_of t) slot
  pub nodes : nodes.Puts m.nodes new.nodes 0 0 0 slot
  pub table : Stores m.keys m.costs new.keys new.costs r.entries slot (signature_of t) 0
  pub heap : frontier.Puts m.heap new.heap 0 (packed (0 + heuristic_key (features_of t)) (heuristic_key (features_of t)) 0)

-- the counts at the start
abbrev pub begun : Table → Counts
begun t = record { born = 1; waiting = 1; best = 0; progress = progress_key (features_of t); pops = 0 }

-- ---- one child

-- an entry of the table is the one for key k: it is k's, or free and the next to be
pub record Spot (r : Room) (m : Memory) (k slot : ℕ) : Type 0 where
  pub which : Held m.keys m.costs r.entries k slot ⊎ Vacant m.keys m.costs r.entries k slot

-- the counts after the birth of a child with this progress: the best moves only to a strictly higher score
abbrev pub counted_with : Counts → ℕ → Counts
counted_with c progress =
    record {
      born = c.born + 1;
      waiting = c.waiting + 1;
      best = cond (ltb c.progress progress) c.born c.best;
      progress = cond (ltb c.progress progress) progress c.progress;
      pops = c.pops;
    }

abbrev pub counted : Counts → Table → Counts
counted c child = counted_with c (progress_key (features_of child))

-- a child was written: its node, its entry in the table, its key
pub record Wrote (r : Room) (m new : Memory) (c : Counts) (parent : ℕ) (move : Move) (cost slot : ℕ) (child : Table) : Type 0 where
  pub nodes : nodes.Added m.nodes new.nodes c.born parent move cost slot
  pub table : Stores m.keys m.costs new.keys new.costs r.entries slot (signature_of child) cost
  pub heap : frontier.Puts m.heap new.heap c.waiting (packed (cost + heuristic_key (features_of child)) (heuristic_key (features_of child)) c.born)

-- ---- one taking

-- the memory with another heap
abbrev pub with_heap : Memory → List ℕ → Memory
with_heap m heap = lent m.nodes heap m.keys m.costs

-- one node waits less, one pop is counted more
abbrev pub popped : Counts → Counts
popped c = record { born = c.born; waiting = c.waiting - 1; best = c.best; progress = c.progress; pops = c.pops + 1 }
