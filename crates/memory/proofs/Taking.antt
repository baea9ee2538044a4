-- Taking: the least key is the first node that waits, and the memory shows the state in which it is taken.
use mathlib.Core.Path.{◌≡◌, refl, ap, ◌∙◌, subst}
use mathlib.Core.List.{List, [], ◌∷◌}
use Prim.Native.Nat.{ℕ, suc, ◌-◌, ◌%◌, ◌<◌}
use native.Mathlib.Numerals.{add-one}
use native.Mathlib.Omega.{arith}
use lib.ListN.{length}
use Rattle.board.specs.Table.{Table}
use Rattle.frontier.specs.Heap.{bag, Takes}
use Rattle.frontier.proofs.Bags.{bag_none, bag-length}
use Rattle.search.specs.Freecell.{freecell}
use Rattle.search.specs.Solve.{State, taken}
use Rattle.memory.specs.declared.Room.{Room}
use Rattle.memory.specs.declared.Counts.{Counts}
use Rattle.memory.specs.Memory.{Memory}
use Rattle.memory.specs.View.{node_of, nodes_by, state_of, known_in}
use Rattle.memory.specs.Machine.{AllKeyed, Machine}
use Rattle.memory.specs.Steps.{with_heap, popped}
use Rattle.memory.proofs.Within.{waiting_there}

-- ---- nothing waits, or something

pub none_waits : (t : Table) (r : Room) (m : Memory) (c : Counts) → c.waiting ≡ 0 → (state_of t r m c).waiting ≡ []
unfolding state_of nodes_by
none_waits t r m c e = ap (nodes_by t m.nodes) (ap (bag m.heap) e ∙ bag_none m.heap)

length_nodes : (t : Table) (words l : List ℕ) → length (nodes_by t words l) ≡ length l
unfolding nodes_by
length_nodes t words [] = refl
length_nodes t words (key ∷ l) = ap suc (length_nodes t words l)

-- as many wait as are counted
pub length_waiting : {t : Table} {r : Room} {m : Memory} {c : Counts} → Machine t r m c → length (state_of t r m c).waiting ≡ c.waiting
unfolding state_of
length_waiting {t} {r} {m} {c} k =
    length_nodes t m.nodes (bag m.heap c.waiting)
    ∙ bag-length m.heap c.waiting (waiting_there k)

-- ---- the first is taken

module _ {t : Table} {r : Room} {m : Memory} {c : Counts} (k : Machine t r m c) {X : List ℕ} {key : ℕ} (some : 0 < c.waiting)
    (w : Takes m.heap X c.waiting key) where
  keyed_apart : AllKeyed t m.nodes c.born (key ∷ bag X (c.waiting - 1))
  keyed_apart = subst (AllKeyed t m.nodes c.born) w.keys k.keyed

  pub taken_born : key % 4294967296 < c.born
  taken_born = keyed_apart.0.born

  pub machine_taken : Machine t r (with_heap m X) (popped c)
  machine_taken =
      record {
        room =
            let o = k.room in
            let a = w.long in
            record { few = o.few; words = o.words; waits = let l = o.waits in omega arith; spare = o.spare };
        nodes = k.nodes;
        within = k.within;
        heap = w.heap;
        waits = let l = k.waits in omega arith;
        keyed = keyed_apart.1;
        table = k.table;
        slots = λ i b. let s = k.slots i b in record { within = s.within; own = s.own };
        used = k.used;
        best = k.best;
        progress = k.progress;
      }

  pub waiting_taken : (state_of t r m c).waiting ≡ node_of t m.nodes (key % 4294967296) ∷ (state_of t r (with_heap m X) (popped c)).waiting
  unfolding state_of nodes_by
  waiting_taken = ap (nodes_by t m.nodes) w.keys

  pub state_taken : state_of t r (with_heap m X) (popped c) ≡ taken freecell (state_of t r (with_heap m X) (popped c)).waiting (state_of t r m c)
  unfolding state_of taken known_in
  state_taken =
      let at : ℕ → State freecell =
      λ p. record {
        born = c.born;
        waiting = nodes_by t m.nodes (bag X (c.waiting - 1));
        known = known_in r m;
        best = node_of t m.nodes c.best;
        pops = p;
      } in
      ap at (add-one c.pops)
