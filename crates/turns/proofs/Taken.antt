-- A node that was taken, as the code names it: number, entry, costs and counts are locals.
use mathlib.Core.Path.{◌≡◌, sym, ap, ◌∙◌, subst}
use mathlib.Core.Bool.{true}
use mathlib.Core.List.{List}
use Prim.Native.Nat.{ℕ, ◌+◌, ◌*◌, ◌%◌, ◌<◌, ◌≤◌}
use lib.ListN.{length}
use Rattle.board.specs.Record.{shown}
use Rattle.board.specs.Inner.{Sound}
use Rattle.board.specs.Table.{Table}
use Rattle.board.specs.declared.Board.{Board}
use Rattle.frontier.specs.Heap.{Takes}
use Rattle.costs.specs.Entries as costs
use Rattle.nodes.specs.Step.{slot_at, cost_at}
use Rattle.memory.specs.declared.Room.{Room}
use Rattle.memory.specs.declared.Counts.{Counts}
use Rattle.memory.specs.declared.Advance.{Advance}
use Rattle.memory.specs.declared.Advance.TheVariants as advance
use Rattle.memory.specs.Memory.{Memory}
use Rattle.memory.specs.Machine.{Machine}
use Rattle.memory.specs.Steps.{with_heap, popped}
use Rattle.memory.proofs.Within.{words_there, entry_there, entry_used}
use Rattle.memory.proofs.Taking.{taken_born}
use Rattle.turns.specs.Inner.{Stood, Visits, Advances}
use Rattle.turns.proofs.Turning.{advance_skips, advance_stood, advance_visits}

module _ {t : Table} {r : Room} {m : Memory} {c : Counts} (k : Machine t r m c) {X : List ℕ} {key : ℕ} (some : 0 < c.waiting) (w : Takes m.heap X c.waiting key)
    {i : ℕ} (e : i ≡ key % 4294967296) where
  born : i < c.born
  born = subst (λ (j : ℕ). j < c.born) (sym e) (taken_born k some w)

  pub number_there : (i + 1) * 3 ≤ length m.nodes
  number_there = words_there k i born

  module _ {slot : ℕ} (q : slot ≡ slot_at m.nodes i) where
    pub entry_within : slot < length m.costs
    entry_within = subst (λ (j : ℕ). j < length m.costs) (sym q) (entry_there k i born)

    pub entry_in_use : costs.is_used m.costs slot ≡ true
    entry_in_use = subst (λ (j : ℕ). costs.is_used m.costs j ≡ true) (sym q) (entry_used k i born)

module _ {root : Board} (begins : Sound root) {r : Room} {m : Memory} {c : Counts} (k : Machine (shown root) r m c) {X : List ℕ} {key : ℕ} (some : 0 < c.waiting)
    (w : Takes m.heap X c.waiting key) {i : ℕ} (e : i ≡ key % 4294967296) where
  module _ {slot known cost : ℕ} (q : slot ≡ slot_at m.nodes i) (a : known ≡ costs.cost_at m.costs slot) (b : cost ≡ cost_at m.nodes i) {d : Counts} (p : d ≡ popped c) where
    known_is : known ≡ costs.cost_at m.costs (slot_at m.nodes (key % 4294967296))
    known_is = a ∙ ap (costs.cost_at m.costs) (q ∙ ap (slot_at m.nodes) e)

    cost_is : cost ≡ cost_at m.nodes (key % 4294967296)
    cost_is = b ∙ ap (cost_at m.nodes) e

    pub skips : (known ≡ cost → ⊥) → Advances root r m (with_heap m X) c (advance.Again d)
    skips n =
        subst (λ (x : Counts). Advances root r m (with_heap m X) c (advance.Again x)) (sym p)
        (advance_skips begins k some w (λ z. n (known_is ∙ z ∙ sym cost_is)))

    pub stood : known ≡ cost → Stood root r (with_heap m X) d i
    stood z =
        subst (λ (x : Counts). Stood root r (with_heap m X) x i) (sym p)
        (subst (Stood root r (with_heap m X) (popped c)) (sym e) (advance_stood begins k some w (sym known_is ∙ z ∙ cost_is)))

  pub visited : {d : Counts} → d ≡ popped c → {new : Memory} {y : Advance} → Visits root r (with_heap m X) new d i y → Advances root r m new c y
  visited {d} p {new} {y} v =
      advance_visits begins k some w
      (subst (λ (j : ℕ). Visits root r (with_heap m X) new (popped c) j y) e (subst (λ (x : Counts). Visits root r (with_heap m X) new x i y) p v))
