-- What the birth of children asks and promises.
use Rattle.std.specs.Prelude.{◌≡◌, true, false, List, ◌⊎◌, ℕ, ◌<◌, ◌≤◌, length, get_or, Some, Option, None}
use Rattle.board.specs.Record.{shown}
use Rattle.board.specs.Inner.{Sound}
use Rattle.board.specs.declared.Board.{Board}
use Rattle.moves.specs.Move.{sayable, count}
use Rattle.moves.specs.declared.Move.{Move}
use Rattle.frontier.specs.Heap.{Heap}
use Rattle.costs.specs.Table as costs
use Rattle.costs.specs.CostIn.{cost_in}
use Rattle.costs.specs.Promises.{Held, Vacant, Place}
use Rattle.signature.specs.Signed.{signature_of}
use Rattle.candidates.specs.Candidates.{candidates}
use Rattle.nodes.specs.Line.{table_to}
use Rattle.search.specs.Freecell.{freecell}
use Rattle.search.specs.Solve.{as_good, bear, expand}
use Rattle.memory.specs.declared.Room.{Room}
use Rattle.memory.specs.declared.Counts.{Counts}
use Rattle.memory.specs.Memory.{Memory, Fits}
use Rattle.memory.specs.View.{told, node_of, state_of, grown_of}
use Rattle.memory.specs.Machine.{Machine}

-- parts of the same lengths
pub record SameSize (m new : Memory) : Type 0 where
  pub nodes : length new.nodes ≡ length m.nodes
  pub heap : length new.heap ≡ length m.heap
  pub keys : length new.keys ≡ length m.keys
  pub costs : length new.costs ≡ length m.costs

-- ---- one child

-- what is known of a key against a cost: as good a one, or an entry to write to
pub record Chooses (keys costs : List ℕ) (n k cost : ℕ) (choice : Option ℕ) : Type 0 where
  pub dropped : choice ≡ None → as_good (told (cost_in keys costs n k)) cost ≡ true
  pub passes : (slot : ℕ) → choice ≡ Some slot → as_good (told (cost_in keys costs n k)) cost ≡ false
  pub spot : (slot : ℕ) → choice ≡ Some slot → Held keys costs n k slot ⊎ Vacant keys costs n k slot

-- a child can be written
pub record Birth (r : Room) (m : Memory) (c : Counts) (parent : ℕ) (move : Move) (cost slot key : ℕ) (child : Board) : Type 0 where
  pub sound : Sound child
  pub signs : key ≡ signature_of (shown child)
  pub room : Fits r m
  pub free : c.born < r.capacity
  pub waits : c.waiting ≤ c.born
  pub older : parent < c.born
  pub said : sayable move ≡ true
  pub few : count move < 16
  pub short : cost ≤ 200
  pub table : costs.Table m.keys m.costs r.entries
  pub place : Place m.keys m.costs r.entries key slot
  pub heap : Heap m.heap c.waiting

-- the root is a board, node i is born, and b is its board
pub record Stands (root : Board) (r : Room) (m : Memory) (c : Counts) (i : ℕ) (b : Board) : Type 0 where
  pub begins : Sound root
  pub machine : Machine (shown root) r m c
  pub born : i < c.born
  pub sound : Sound b
  pub shows : shown b ≡ table_to (shown root) m.nodes i

-- the memory is in order again; the node that is expanded is what it was, and no pop was counted
pub record Onward (root : Board) (r : Room) (m new : Memory) (c d : Counts) (i : ℕ) : Type 0 where
  pub machine : Machine (shown root) r new d
  pub more : c.born ≤ d.born
  pub same : node_of (shown root) new.nodes i ≡ node_of (shown root) m.nodes i
  pub pops : d.pops ≡ c.pops

-- where there was no room for a child nothing more is known
abbrev pub Grew : Board → Room → Memory → Memory → Counts → ℕ → Option Counts → Type 0
Grew root r m new c i None = Unit {0}
Grew root r m new c i (Some d) = Onward root r m new c d i

pub record Bears (root : Board) (r : Room) (m new : Memory) (c : Counts) (i : ℕ) (move : Move) (g : Option Counts) : Type 0 where
  pub grew : Grew root r m new c i g
  pub grows : bear freecell r.capacity (node_of (shown root) m.nodes i) move (state_of (shown root) r m c) ≡ grown_of (shown root) r new g

pub record Expands (root : Board) (r : Room) (m new : Memory) (c : Counts) (i : ℕ) (g : Option Counts) : Type 0 where
  pub grew : Grew root r m new c i g
  pub grows : expand freecell r.capacity (node_of (shown root) m.nodes i) (candidates (table_to (shown root) m.nodes i)) (state_of (shown root) r m c)
      ≡ grown_of (shown root) r new g

-- ---- the table at the start

-- the first n entries of a table can be used, and nothing is in them
pub record Empty (keys costs : List ℕ) (n : ℕ) : Type 0 where
  pub some : 1 ≤ n
  pub most : n ≤ 4294967296
  pub keyed : n ≤ length keys
  pub costed : n ≤ length costs
  pub zero : (i : ℕ) → i < n → get_or costs i 0 ≡ 0
