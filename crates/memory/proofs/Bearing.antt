-- What a search does with one child, case by case, as the memory tells the case.
use Rattle.std.specs.Prelude.{Some, None}
use mathlib.Core.Path.{◌≡◌, refl, sym, ap, ap₂, ◌∙◌}
use mathlib.Core.Bool.{Bool, true, false, ◌||◌}
use mathlib.Core.List.{List}
use Prim.Native.Nat.{ℕ, ◌<◌, ◌≤◌}
use borrow.Author.Tests.{lt-ltb, le-ltb, le-leb, lt-leb}
use lib.Dec.{leb, ltb}
use lib.ListN.{length, length-append}
use Rattle.board.specs.Table.{Table}
use Rattle.board.specs.Fair.{Fair}
use Rattle.moves.specs.declared.Move.{Move}
use Rattle.costs.specs.Entries.{cost_at}
use Rattle.costs.specs.CostIn.{KnownCost, cost_in}
use Rattle.costs.specs.Promises.{Held, Vacant}
use Rattle.signature.specs.Signed.{signature_of}
use Rattle.candidates.specs.Children.{child_moves}
use Rattle.nodes.specs.Line.{line_to, table_to}
use Rattle.search.specs.Freecell.{freecell}
use Rattle.search.specs.Solve.{Perhaps, Node, grown, as_good, child_of, dropped, no_room, born_as, bear}
use Rattle.memory.specs.declared.Room.{Room}
use Rattle.memory.specs.declared.Counts.{Counts}
use Rattle.memory.specs.Memory.{Memory}
use Rattle.memory.specs.View.{told, node_of, state_of, grown_of, known_in}
use Rattle.memory.specs.Machine.{Machine}
use Rattle.memory.specs.Steps.{Spot, counted, Wrote}
use Rattle.memory.proofs.Children.{Child}
use Rattle.memory.proofs.Writing.{state_wrote}

-- ---- what the table of costs says of a child

module _ {keys costs : List ℕ} {n k slot : ℕ} where
  pub held_good : Held keys costs n k slot → (own : ℕ) → as_good (told (cost_in keys costs n k)) own ≡ leb (cost_at costs slot) own
  held_good h own = ap (λ (x : KnownCost). as_good (told x) own) h.best

  pub vacant_good : Vacant keys costs n k slot → (own : ℕ) → as_good (told (cost_in keys costs n k)) own ≡ false
  vacant_good v own = ap (λ (x : KnownCost). as_good (told x) own) v.none

-- ---- a definition's step

or_true : (a : Bool) → (a || true) ≡ true
or_true true = refl
or_true false = refl

module _ {t : Table} {r : Room} {m : Memory} {c : Counts} (k : Machine t r m c) {parent cost : ℕ} {move : Move} {child : Table}
    (h : Child t m c parent move cost child) where
  -- the child of the definition
  abbrev theirs : Node freecell
  theirs = child_of freecell (node_of t m.nodes parent) move (state_of t r m c)

  their_cost : length theirs.line ≡ cost
  unfolding child_of node_of
  their_cost = length-append (line_to t m.nodes parent) (child_moves (table_to t m.nodes parent) move) ∙ sym h.adds

  their_known : (state_of t r m c).known theirs.board ≡ told (cost_in m.keys m.costs r.entries (signature_of child))
  unfolding child_of node_of state_of known_in
  their_known = ap (λ (u : Table). told (cost_in m.keys m.costs r.entries (signature_of u))) (sym h.table)

  -- dropped, as the memory tells it
  dropped_is : dropped freecell theirs (state_of t r m c) ≡ (ltb 200 cost || as_good (told (cost_in m.keys m.costs r.entries (signature_of child))) cost)
  unfolding dropped
  dropped_is = ap₂ (λ (n : ℕ) (p : Perhaps ℕ). ltb 200 n || as_good p n) their_cost their_known

  no_room_is : no_room freecell r.capacity (state_of t r m c) ≡ leb r.capacity c.born
  unfolding no_room state_of
  no_room_is = refl

  bear_is : (a b : Bool) → dropped freecell theirs (state_of t r m c) ≡ a → no_room freecell r.capacity (state_of t r m c) ≡ b
      → bear freecell r.capacity (node_of t m.nodes parent) move (state_of t r m c) ≡ born_as freecell a b theirs (state_of t r m c)
  unfolding bear
  bear_is a b p q = ap₂ (λ (x y : Bool). born_as freecell x y theirs (state_of t r m c)) p q

  dropped_bears : dropped freecell theirs (state_of t r m c) ≡ true
      → bear freecell r.capacity (node_of t m.nodes parent) move (state_of t r m c) ≡ grown_of t r m (Some c)
  dropped_bears e = bear_is true (no_room freecell r.capacity (state_of t r m c)) e refl

  -- over the depth
  pub bears_deep : 200 < cost → bear freecell r.capacity (node_of t m.nodes parent) move (state_of t r m c) ≡ grown_of t r m (Some c)
  bears_deep l = dropped_bears (dropped_is ∙ ap (λ (b : Bool). b || as_good (told (cost_in m.keys m.costs r.entries (signature_of child))) cost) (lt-ltb 200 cost l))

  -- a cost not above its own is known
  pub bears_known : as_good (told (cost_in m.keys m.costs r.entries (signature_of child))) cost ≡ true
      → bear freecell r.capacity (node_of t m.nodes parent) move (state_of t r m c) ≡ grown_of t r m (Some c)
  bears_known e = dropped_bears (dropped_is ∙ ap (λ (b : Bool). ltb 200 cost || b) e ∙ or_true (ltb 200 cost))

  module _ (short : cost ≤ 200) (fresh : as_good (told (cost_in m.keys m.costs r.entries (signature_of child))) cost ≡ false) where
    passes : dropped freecell theirs (state_of t r m c) ≡ false
    passes = dropped_is ∙ ap₂ ◌||◌ (le-ltb 200 cost short) fresh

    -- no room
    pub bears_full : r.capacity ≤ c.born → bear freecell r.capacity (node_of t m.nodes parent) move (state_of t r m c) ≡ grown_of t r m None
    bears_full l = bear_is false true passes (no_room_is ∙ le-leb r.capacity c.born l)

    -- borne
    pub bears_born : Fair t → {new : Memory} {slot : ℕ} → c.born < r.capacity → Spot r m (signature_of child) slot → Wrote r m new c parent move cost slot child
        → bear freecell r.capacity (node_of t m.nodes parent) move (state_of t r m c) ≡ grown_of t r new (Some (counted c child))
    bears_born f room spot w =
        bear_is false false passes (no_room_is ∙ lt-leb r.capacity c.born room) ∙ ap grown (sym (state_wrote f k h short room spot w))
