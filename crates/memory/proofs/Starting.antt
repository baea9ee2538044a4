-- The start: in blank memory the root is written, and the memory shows the state at the start of a search.
use mathlib.Core.Path.{◌≡◌, sym, ap, ap₂, ◌∙◌, subst}
use mathlib.Core.Bool.{Bool, cond}
use mathlib.Core.List.{[], ◌∷◌}
use Prim.Native.Nat.{ℕ, zero, suc, ◌+◌, ◌<◌, ◌≤◌}
use native.Mathlib.Omega.{arith}
use native.Mathlib.Decide.{ℕ_discrete}
use borrow.Author.Tests.{eq-eqb, ne_eqb}
use lib.Dec.{eqb}
use lib.ListN.{length}
use Rattle.board.specs.Table.{Table}
use Rattle.base.specs.Rising.{placed}
use Rattle.base.proofs.Placed.{placed_alone}
use Rattle.frontier.specs.Heap as frontier
use Rattle.frontier.specs.Packing.{packed}
use Rattle.frontier.proofs.Bags.{bag_none}
use Rattle.costs.specs.Entries.{holds, used}
use Rattle.costs.specs.CostIn.{unknown, cost_in}
use Rattle.costs.specs.Table as costs
use Rattle.costs.proofs.Slots.{table_none, unknown_none, slot_new}
use Rattle.costs.proofs.Counting.{used_none, used-vacant}
use Rattle.signature.specs.Signed.{signature_of}
use Rattle.features.specs.Features.{features_of}
use Rattle.score.specs.Scores.{heuristic_key, progress_key}
use Rattle.nodes.specs.Line.{line_to, table_to}
use Rattle.nodes.proofs.Climbing.{line_root, table_root}
use Rattle.nodes.proofs.Adding.{set_long, new_slot, nodes_root}
use Rattle.search.specs.Freecell.{freecell}
use Rattle.search.specs.Solve.{none, some, start, learned}
use Rattle.memory.specs.declared.Room.{Room}
use Rattle.memory.specs.Memory.{Memory}
use Rattle.memory.specs.View.{told, node_of, key_of, nodes_by, state_of, known_in}
use Rattle.memory.specs.Machine.{AllKeyed, Slotted, Machine}
use Rattle.memory.specs.Steps.{Blank, Rooted, begun}
use Rattle.memory.proofs.Queueing.{key_number, key_keyed}

-- ---- the table of costs in blank memory

module _ {r : Room} {m : Memory} (b : Blank r m) where
  pub blank_table : costs.Table m.keys m.costs r.entries
  blank_table = let s = b.room.spare in table_none m.keys m.costs r.entries (λ i h. b.free i) (omega arith) b.most b.keyed b.costed

  pub blank_unknown : (k : ℕ) → cost_in m.keys m.costs r.entries k ≡ unknown
  blank_unknown = unknown_none m.keys m.costs r.entries (λ i h. b.free i)

  pub blank_unused : used m.costs r.entries ≡ 0
  blank_unused = used_none m.costs r.entries (λ i h. b.free i)

-- ---- the root

module _ {t : Table} {r : Room} {m new : Memory} {slot : ℕ} (b : Blank r m) (w : Rooted t r m new slot) where
  words_room : 3 ≤ length m.nodes
  words_room = let l = b.room.words in let s = b.some in omega arith

  root_line : length (line_to t new.nodes 0) ≡ 0
  root_line = ap length (line_root t new.nodes)

  root_table : table_to t new.nodes 0 ≡ t
  root_table = table_root t new.nodes

  root_node : node_of t new.nodes 0 ≡ record { number = 0; line = []; board = t }
  unfolding node_of
  root_node = let l = line_root t new.nodes in let u = root_table in cc

  root_key : packed (0 + heuristic_key (features_of t)) (heuristic_key (features_of t)) 0 ≡ key_of t new.nodes 0
  unfolding key_of
  root_key = let l = root_line in let u = root_table in cc

  root_bag : frontier.bag new.heap 1 ≡ key_of t new.nodes 0 ∷ []
  root_bag = w.heap.keys ∙ ap₂ placed root_key (bag_none m.heap) ∙ placed_alone (key_of t new.nodes 0)

  root_known : known_in r new ≡ learned freecell t 0 (λ u. none)
  unfolding known_in learned
  root_known = λ i u. by_key u (ℕ_discrete (signature_of u) (signature_of t)) i
    where
      by_key : (u : Table) → Dec (signature_of u ≡ signature_of t)
          → told (cost_in new.keys new.costs r.entries (signature_of u)) ≡ cond (eqb (signature_of u) (signature_of t)) (some 0) none
      by_key u (yes e) =
          ap (λ (x : ℕ). told (cost_in new.keys new.costs r.entries x)) e ∙ ap told w.table.best
          ∙ sym (ap (λ (b : Bool). cond b (some 0) none) (eq-eqb (signature_of u) (signature_of t) e))
      by_key u (no d) =
          ap told (w.table.others (signature_of u) d ∙ blank_unknown b (signature_of u))
          ∙ sym (ap (λ (b : Bool). cond b (some 0) none) (ne_eqb (signature_of u) (signature_of t) d))

  root_slot : (i : ℕ) → i < 1 → Slotted t new r.entries i
  root_slot zero l =
      let e = new_slot w.nodes words_room in
      let p = w.spot.place in
      record {
        within = let h = p.within in omega arith;
        own = ap₂ (λ (s : ℕ) (u : Table). holds new.keys new.costs s (signature_of u)) e root_table ∙ slot_new (blank_table b) p w.table;
      }
  root_slot (suc i) l = absurd (let z : ⊥ = omega arith in z)

  pub machine_start : Machine t r new (begun t)
  machine_start =
      record {
        room =
            let o = b.room in
            let a = set_long w.nodes in
            let h = w.heap.long in
            record { few = o.few; words = let l = o.words in omega arith; waits = let l = o.waits in omega arith; spare = o.spare };
        nodes = nodes_root t w.nodes words_room;
        within = b.some;
        heap = w.heap.heap;
        waits = omega arith;
        keyed = subst (AllKeyed t new.nodes 1) (sym root_bag) (key_keyed t new.nodes 0 (omega arith), tt);
        table = w.table.table;
        slots = root_slot;
        used = let e = used-vacant (blank_table b) w.table w.spot in let u = blank_unused b in omega arith;
        best = omega arith;
        progress = ap (λ (u : Table). progress_key (features_of u)) (sym root_table);
      }

  root_waits : nodes_by t new.nodes (frontier.bag new.heap 1) ≡ node_of t new.nodes 0 ∷ []
  unfolding nodes_by
  root_waits = ap (nodes_by t new.nodes) root_bag ∙ ap (λ (i : ℕ). node_of t new.nodes i ∷ []) (key_number t new.nodes 0 (omega arith))

  pub state_start : state_of t r new (begun t) ≡ start freecell t
  unfolding state_of start
  state_start = let w = root_waits in let k = root_known in let n = root_node in cc
