-- One child written: the memory shows the state in which it is borne.
use mathlib.Core.Path.{◌≡◌, refl, sym, ap, ap₂, ◌∙◌, subst}
use mathlib.Core.Bool.{Bool, true, false, cond}
use mathlib.Core.List.{◌++◌}
use mathlib.Core.Logic.{◌⊎◌, inl, inr}
use Prim.Native.Nat.{ℕ, ◌+◌, ◌*◌, ◌<◌, ◌≤◌}
use native.Mathlib.Numerals.{add-one}
use native.Mathlib.Omega.{arith}
use native.Mathlib.Decide.{ℕ_discrete}
use borrow.Author.Tests.{eq-eqb, ne_eqb}
use lib.Dec.{eqb, ltb}
use lib.ListN.{length, length-append}
use Rattle.board.specs.Table.{Table}
use Rattle.board.specs.Fair.{Fair}
use Rattle.moves.specs.Move.{count}
use Rattle.moves.specs.declared.Move.{Move}
use Rattle.frontier.specs.Heap.{bag}
use Rattle.frontier.specs.Packing.{packed}
use Rattle.base.specs.Rising.{placed}
use Rattle.costs.specs.Entries.{holds, used}
use Rattle.costs.specs.CostIn.{cost_in}
use Rattle.costs.specs.Promises.{Held, Vacant, Place}
use Rattle.costs.proofs.Slots.{slot_new, slot_stays}
use Rattle.costs.proofs.Counting.{used-held, used-vacant}
use Rattle.signature.specs.Signed.{signature_of}
use Rattle.features.specs.Features.{features_of}
use Rattle.score.specs.Scores.{heuristic_key, progress_key}
use Rattle.candidates.specs.Children.{child_moves, child_table}
use Rattle.nodes.specs.Step.{slot_at}
use Rattle.nodes.specs.Line.{line_to, table_to}
use Rattle.nodes.specs.Nodes.{Nodes}
use Rattle.nodes.proofs.Adding as adding
use Rattle.nodes.proofs.Reaching.{node_fair}
use Rattle.search.specs.Freecell.{freecell}
use Rattle.search.specs.Solve.{some, Node, queued, child_of, better, bearing, learned}
use Rattle.memory.specs.declared.Room.{Room}
use Rattle.memory.specs.declared.Counts.{Counts}
use Rattle.memory.specs.Memory.{Memory}
use Rattle.memory.specs.View.{told, node_of, key_of, nodes_by, state_of, known_in}
use Rattle.memory.specs.Machine.{AllKeyed, Slotted, Machine}
use Rattle.memory.specs.Steps.{Spot, counted, Wrote}
use Rattle.memory.proofs.Within.{words_room}
use Rattle.memory.proofs.Children.{Child, hope_small, child_few}
use Rattle.memory.proofs.Queueing.{Same, nodes_same, waiting_same, keyed_same, placed_queued, placed_keyed}

-- an entry for a key is its place
pub spot_place : {r : Room} {m : Memory} {k slot : ℕ} → Spot r m k slot → Place m.keys m.costs r.entries k slot
spot_place {r} {m} {k} {slot} s = by_which s.which
  where
    by_which : Held m.keys m.costs r.entries k slot ⊎ Vacant m.keys m.costs r.entries k slot → Place m.keys m.costs r.entries k slot
    by_which (inl h) = h.place
    by_which (inr v) = v.place

module _ {t : Table} (f : Fair t) {r : Room} {m new : Memory} {c : Counts} (k : Machine t r m c) {parent cost slot : ℕ} {move : Move} {child : Table}
    (h : Child t m c parent move cost child) (short : cost ≤ 200) (room : c.born < r.capacity) (spot : Spot r m (signature_of child) slot)
    (w : Wrote r m new c parent move cost slot child) where
  words : (c.born + 1) * 3 ≤ length m.nodes
  words = words_room k room

  few : count move < 16
  few = child_few f k h

  nodes_new : Nodes t new.nodes (c.born + 1)
  nodes_new = adding.nodes_added w.nodes k.nodes words h.older h.playable few (omega arith) h.adds short

  same : Same t m.nodes new.nodes c.born
  same = record { lines = adding.old_line w.nodes k.nodes words; tables = adding.old_table w.nodes k.nodes words }

  -- the nodes that were there are as they were
  pub node_kept : (i : ℕ) → i < c.born → node_of t new.nodes i ≡ node_of t m.nodes i
  node_kept = nodes_same t same

  line_new : line_to t new.nodes c.born ≡ line_to t m.nodes parent ++ child_moves (table_to t m.nodes parent) move
  line_new = adding.new_line w.nodes k.nodes words h.older h.playable few (omega arith)

  table_new : table_to t new.nodes c.born ≡ child_table (table_to t m.nodes parent) move
  table_new = adding.new_table w.nodes k.nodes words h.older h.playable few (omega arith)

  child_new : table_to t new.nodes c.born ≡ child
  child_new = table_new ∙ sym h.table

  cost_new : length (line_to t new.nodes c.born) ≡ cost
  cost_new = ap length line_new ∙ length-append (line_to t m.nodes parent) (child_moves (table_to t m.nodes parent) move) ∙ sym h.adds

  -- the new node is the child
  pub node_new : node_of t new.nodes c.born ≡ child_of freecell (node_of t m.nodes parent) move (state_of t r m c)
  unfolding node_of child_of state_of
  node_new = let l = line_new in let u = table_new in cc

  -- ---- the nodes that wait

  key_new : packed (cost + heuristic_key (features_of child)) (heuristic_key (features_of child)) c.born ≡ key_of t new.nodes c.born
  unfolding key_of
  key_new = let l = cost_new in let u = child_new in cc

  hopes : (i : ℕ) → i ≤ c.born → heuristic_key (features_of (table_to t new.nodes i)) < 32768
  hopes i b = hope_small (table_to t new.nodes i) (node_fair nodes_new i (omega arith) f)

  born_few : c.born < 4294967296
  born_few = let l = k.room.few in omega arith

  bag_new : bag new.heap (c.waiting + 1) ≡ placed (key_of t new.nodes c.born) (bag m.heap c.waiting)
  bag_new = w.heap.keys ∙ ap (λ (x : ℕ). placed x (bag m.heap c.waiting)) key_new

  keyed_old : (n : ℕ) → c.born ≤ n → AllKeyed t new.nodes n (bag m.heap c.waiting)
  keyed_old n b = keyed_same t same n b (bag m.heap c.waiting) k.keyed

  keyed_new : AllKeyed t new.nodes (c.born + 1) (bag new.heap (c.waiting + 1))
  keyed_new =
      subst (AllKeyed t new.nodes (c.born + 1)) (sym bag_new)
      (placed_keyed t new.nodes c.born born_few (bag m.heap c.waiting) (keyed_old (c.born + 1) (omega arith)))

  waiting_new : nodes_by t new.nodes (bag new.heap (c.waiting + 1))
      ≡ queued freecell (node_of t new.nodes c.born) (nodes_by t m.nodes (bag m.heap c.waiting))
  waiting_new =
      ap (nodes_by t new.nodes) bag_new
      ∙ placed_queued t new.nodes c.born born_few hopes (bag m.heap c.waiting) (keyed_old c.born (omega arith))
      ∙ ap (queued freecell (node_of t new.nodes c.born)) (waiting_same t same (bag m.heap c.waiting) k.keyed)

  -- ---- what is known

  -- the cost of the child's board is learned, and the others are as they were
  known_new : known_in r new ≡ learned freecell child cost (known_in r m)
  unfolding known_in learned
  known_new = λ i u. by_key u (ℕ_discrete (signature_of u) (signature_of child)) i
    where
      by_key : (u : Table) → Dec (signature_of u ≡ signature_of child)
          → told (cost_in new.keys new.costs r.entries (signature_of u))
          ≡ cond (eqb (signature_of u) (signature_of child)) (some cost) (told (cost_in m.keys m.costs r.entries (signature_of u)))
      by_key u (yes e) =
          ap (λ (x : ℕ). told (cost_in new.keys new.costs r.entries x)) e ∙ ap told w.table.best
          ∙ sym (ap (λ (b : Bool). cond b (some cost) (told (cost_in m.keys m.costs r.entries (signature_of u)))) (eq-eqb (signature_of u) (signature_of child) e))
      by_key u (no d) =
          ap told (w.table.others (signature_of u) d)
          ∙ sym (ap (λ (b : Bool). cond b (some cost) (told (cost_in m.keys m.costs r.entries (signature_of u)))) (ne_eqb (signature_of u) (signature_of child) d))

  slots_new : (i : ℕ) → i < c.born + 1 → Slotted t new r.entries i
  slots_new i b = by_place (ℕ_discrete i c.born)
    where
      place : Place m.keys m.costs r.entries (signature_of child) slot
      place = spot_place spot

      last : Slotted t new r.entries c.born
      last =
          let e = adding.new_slot w.nodes.puts words in
          record {
            within = let l = place.within in omega arith;
            own = ap₂ (λ (s : ℕ) (u : Table). holds new.keys new.costs s (signature_of u)) e child_new ∙ slot_new k.table place w.table;
          }

      by_place : Dec (i ≡ c.born) → Slotted t new r.entries i
      by_place (yes e) = subst (Slotted t new r.entries) (sym e) last
      by_place (no d) =
          let below : i < c.born = omega arith in
          let e = adding.old_slot w.nodes.puts i below in
          let u = same.tables i below in
          let s = k.slots i below in
          record {
            within = let l = s.within in omega arith;
            own =
                ap₂ (λ (s : ℕ) (u : Table). holds new.keys new.costs s (signature_of u)) e u
                ∙ slot_stays k.table place w.table (slot_at m.nodes i) (signature_of (table_to t m.nodes i)) s.own;
          }

  used_new : used new.costs r.entries ≤ c.born + 1
  used_new = by_which spot.which
    where
      by_which : Held m.keys m.costs r.entries (signature_of child) slot ⊎ Vacant m.keys m.costs r.entries (signature_of child) slot
          → used new.costs r.entries ≤ c.born + 1
      by_which (inl a) = let e = used-held k.table w.table a in let u = k.used in omega arith
      by_which (inr a) = let e = used-vacant k.table w.table a in let u = k.used in omega arith

  -- ---- the best so far

  abbrev higher : Bool
  higher = ltb c.progress (progress_key (features_of child))

  best_new : (b : Bool) → cond b c.born c.best < c.born + 1
  best_new true = omega arith
  best_new false = let l = k.best in omega arith

  progress_new : (b : Bool) → cond b (progress_key (features_of child)) c.progress ≡ progress_key (features_of (table_to t new.nodes (cond b c.born c.best)))
  progress_new true = ap (λ (u : Table). progress_key (features_of u)) (sym child_new)
  progress_new false = k.progress ∙ ap (λ (u : Table). progress_key (features_of u)) (sym (same.tables c.best k.best))

  better_new : node_of t new.nodes (cond higher c.born c.best) ≡ better freecell (node_of t new.nodes c.born) (node_of t m.nodes c.best)
  unfolding better node_of
  better_new =
      by_test higher
      ∙ ap₂ (λ (x y : ℕ). cond (ltb x y) (node_of t new.nodes c.born) (node_of t m.nodes c.best)) k.progress
      (ap (λ (u : Table). progress_key (features_of u)) (sym child_new))
    where
      by_test : (b : Bool) → node_of t new.nodes (cond b c.born c.best) ≡ cond b (node_of t new.nodes c.born) (node_of t m.nodes c.best)
      by_test true = refl
      by_test false = node_kept c.best k.best

  -- ---- all of it

  pub machine_wrote : Machine t r new (counted c child)
  machine_wrote =
      record {
        room =
            let o = k.room in
            let a = adding.set_long w.nodes.puts in
            let b = w.heap.long in
            record { few = o.few; words = let l = o.words in omega arith; waits = let l = o.waits in omega arith; spare = o.spare };
        nodes = nodes_new;
        within = omega arith;
        heap = w.heap.heap;
        waits = let l = k.waits in omega arith;
        keyed = keyed_new;
        table = w.table.table;
        slots = slots_new;
        used = used_new;
        best = best_new higher;
        progress = progress_new higher;
      }

  state_bare : state_of t r new (counted c child) ≡ bearing freecell (node_of t new.nodes c.born) (state_of t r m c)
  unfolding state_of bearing node_of
  state_bare =
      let b = add-one c.born in
      let w = waiting_new in
      let l = cost_new in
      let u = child_new in
      let n = known_new in
      let o = better_new in
      cc

  pub state_wrote : state_of t r new (counted c child) ≡ bearing freecell (child_of freecell (node_of t m.nodes parent) move (state_of t r m c)) (state_of t r m c)
  state_wrote = state_bare ∙ ap (λ (x : Node freecell). bearing freecell x (state_of t r m c)) node_new
