-- What the functions of the search's turns ask and promise.
use Rattle.std.specs.Prelude.{◌≡◌, ℕ, ◌+◌, ◌<◌}
use Rattle.board.specs.Record.{shown}
use Rattle.board.specs.Inner.{Sound}
use Rattle.board.specs.declared.Board.{Board}
use Rattle.costs.specs.Entries as entries
use Rattle.nodes.specs.Step.{cost_at, slot_at}
use Rattle.nodes.specs.Nodes.{Nodes}
use Rattle.search.specs.Freecell.{freecell}
use Rattle.search.specs.Solve.{State, End, start, visit, go_on, onward, run}
use Rattle.memory.specs.declared.Room.{Room}
use Rattle.memory.specs.declared.Counts.{Counts}
use Rattle.memory.specs.declared.Advance.{Advance}
use Rattle.memory.specs.declared.Advance.TheVariants as advance
use Rattle.memory.specs.declared.Ended.{Ended}
use Rattle.memory.specs.Memory.{Memory}
use Rattle.memory.specs.View.{node_of, state_of, turn_of, end_of}
use Rattle.memory.specs.Machine.{Machine}
use Rattle.finish.specs.Inner.{Closed}

-- ---- one turn

-- the root is a board, node i is born, and no better cost is known for its board
pub record Stood (root : Board) (r : Room) (m : Memory) (c : Counts) (i : ℕ) : Type 0 where
  pub begins : Sound root
  pub machine : Machine (shown root) r m c
  pub born : i < c.born
  pub current : entries.cost_at m.costs (slot_at m.nodes i) ≡ cost_at m.nodes i

-- after a turn: the memory is in order where the search goes on, with so many pops; a node that wins is born
abbrev pub Went : Board → Room → Memory → ℕ → Advance → Type 0
Went root r new pops (advance.Again d) = Machine (shown root) r new d × (d.pops ≡ pops)
Went root r new pops (advance.WonBy i d) = (i < d.born) × Nodes (shown root) new.nodes d.born
Went root r new pops (advance.OutOfNodes p) = Unit {0}

pub record Visits (root : Board) (r : Room) (m new : Memory) (c : Counts) (i : ℕ) (a : Advance) : Type 0 where
  pub went : Went root r new c.pops a
  pub turns : visit freecell r.capacity (node_of (shown root) m.nodes i) (state_of (shown root) r m c) ≡ turn_of (shown root) r new a

pub record Advances (root : Board) (r : Room) (m new : Memory) (c : Counts) (a : Advance) : Type 0 where
  pub went : Went root r new (c.pops + 1) a
  pub turns : (f : State freecell → End freecell)
      → go_on freecell r.capacity (state_of (shown root) r m c).waiting (state_of (shown root) r m c) f ≡ onward freecell (turn_of (shown root) r new a) f

-- ---- the start

pub record Seeds (root : Board) (r : Room) (new : Memory) (c : Counts) : Type 0 where
  pub machine : Machine (shown root) r new c
  pub pops : c.pops ≡ 0
  pub begins : state_of (shown root) r new c ≡ start freecell (shown root)

-- ---- the run

pub record Goes (root : Board) (r : Room) (budget : ℕ) (m new : Memory) (c : Counts) (e : Ended) : Type 0 where
  pub closed : Closed (shown root) new.nodes e
  pub ends : run freecell budget r.capacity (state_of (shown root) r m c) ≡ end_of (shown root) r new e
