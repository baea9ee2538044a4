-- What a machine's counts and numbers are good for in code: they lie within the lent memory, and fit its words.
use mathlib.Core.Path.{◌≡◌}
use mathlib.Core.Bool.{true}
use Prim.Native.Nat.{ℕ, ◌+◌, ◌*◌, ◌<◌, ◌≤◌}
use native.Mathlib.Omega.{arith}
use lib.ListN.{length}
use Rattle.board.specs.Table.{Table}
use Rattle.costs.specs.Entries.{is_used, used}
use Rattle.costs.proofs.Entries.{held-used}
use Rattle.signature.specs.Signed.{signature_of}
use Rattle.nodes.specs.Step.{slot_at, cost_at}
use Rattle.nodes.specs.Line.{table_to}
use Rattle.memory.specs.declared.Room.{Room}
use Rattle.memory.specs.declared.Counts.{Counts}
use Rattle.memory.specs.Memory.{Memory}
use Rattle.memory.specs.Machine.{Machine}

module _ {t : Table} {r : Room} {m : Memory} {c : Counts} (k : Machine t r m c) where
  pub waiting_there : c.waiting ≤ length m.heap
  waiting_there = let a = k.room.waits in let b = k.waits in let d = k.within in omega arith

  -- an entry is always free, so that a place is found
  pub spare_entry : used m.costs r.entries < r.entries
  spare_entry = let a = k.used in let b = k.within in let d = k.room.spare in omega arith

  -- ---- a node

  module _ (i : ℕ) (born : i < c.born) where
    pub words_there : (i + 1) * 3 ≤ length m.nodes
    words_there = let a = k.nodes.linked.fits in omega arith

    pub entry_there : slot_at m.nodes i < length m.costs
    entry_there = let a = (k.slots i born).within in let b = k.table.costed in omega arith

    pub entry_used : is_used m.costs (slot_at m.nodes i) ≡ true
    entry_used = held-used m.keys m.costs (slot_at m.nodes i) (signature_of (table_to t m.nodes i)) (k.slots i born).own

    pub cost_short : cost_at m.nodes i ≤ 200
    cost_short = let a = k.nodes.cost i born in let b = k.nodes.short i born in omega arith

  -- ---- a node more

  module _ (room : c.born < r.capacity) where
    pub words_room : (c.born + 1) * 3 ≤ length m.nodes
    words_room = let a = k.room.words in omega arith
