-- A node that is taken, case by case, as the memory tells the case.
use mathlib.Core.Path.{◌≡◌, refl, sym, ap, ap₂, ◌∙◌}
use mathlib.Core.Bool.{Bool, true, false, not}
use mathlib.Core.List.{List}
use Prim.Native.Nat.{ℕ, ◌%◌, ◌<◌, ◌≤◌}
use native.Mathlib.Omega.{arith}
use borrow.Author.Tests.{eq-eqb, ne_eqb, le-leb, lt-leb}
use lib.Dec.{eqb, leb}
use lib.ListN.{length}
use Rattle.board.specs.Table.{Table}
use Rattle.questions.specs.Questions.{won_on}
use Rattle.frontier.specs.Heap.{Takes}
use Rattle.costs.specs.Entries as costs
use Rattle.costs.proofs.Slots.{slot_cost}
use Rattle.signature.specs.Signed.{signature_of}
use Rattle.candidates.specs.Candidates.{candidates}
use Rattle.nodes.specs.Step as nodes
use Rattle.nodes.specs.Line.{line_to, table_to}
use Rattle.search.specs.Freecell.{freecell}
use Rattle.search.specs.Solve.{some, Node, State, End, Turn, differs, expand, grown_turn, visit_as, visit, onward, go_on}
use Rattle.memory.specs.declared.Room.{Room}
use Rattle.memory.specs.declared.Counts.{Counts}
use Rattle.memory.specs.declared.Advance.{Advance}
use Rattle.memory.specs.declared.Advance.TheVariants as advance
use Rattle.memory.specs.Memory.{Memory}
use Rattle.memory.specs.View.{told, node_of, state_of, turn_of, known_in}
use Rattle.memory.specs.Machine.{Machine}
use Rattle.memory.specs.Steps.{with_heap, popped}
use Rattle.memory.proofs.Taking.{taken_born, machine_taken, waiting_taken, state_taken}

-- ---- a node is visited

module _ {t : Table} {r : Room} {m : Memory} {c : Counts} (k : Machine t r m c) (i : ℕ) (born : i < c.born) where
  -- the best cost known for a node stands in its entry
  known_is : (state_of t r m c).known (table_to t m.nodes i) ≡ some (costs.cost_at m.costs (nodes.slot_at m.nodes i))
  unfolding state_of known_in
  known_is =
      let s = k.slots i born in
      ap told (slot_cost k.table (nodes.slot_at m.nodes i) (signature_of (table_to t m.nodes i)) s.within s.own)

  pub differs_is : differs ((state_of t r m c).known (table_to t m.nodes i)) (length (line_to t m.nodes i))
      ≡ not (eqb (costs.cost_at m.costs (nodes.slot_at m.nodes i)) (nodes.cost_at m.nodes i))
  differs_is = ap₂ differs known_is (sym (k.nodes.cost i born))

  -- the turn of the definition
  abbrev visited : Turn freecell
  visited = visit freecell r.capacity (node_of t m.nodes i) (state_of t r m c)

  visit_is : (a b d : Bool)
      → not (eqb (costs.cost_at m.costs (nodes.slot_at m.nodes i)) (nodes.cost_at m.nodes i)) ≡ a
      → won_on (table_to t m.nodes i).foundation ≡ b
      → leb 200 (length (line_to t m.nodes i)) ≡ d
      → visited ≡ visit_as freecell a b d r.capacity (node_of t m.nodes i) (state_of t r m c)
  unfolding visit node_of
  visit_is a b d p q s =
      let by : Bool → Bool → Bool → Turn freecell = λ x y z. visit_as freecell x y z r.capacity (node_of t m.nodes i) (state_of t r m c) in
      ap (λ (x : Bool). by x (won_on (table_to t m.nodes i).foundation) (leb 200 (length (line_to t m.nodes i)))) (differs_is ∙ p) ∙ ap₂ (by a) q s

  -- skipped: a better cost is known
  pub visits_skip : (costs.cost_at m.costs (nodes.slot_at m.nodes i) ≡ nodes.cost_at m.nodes i → ⊥) → visited ≡ turn_of t r m (advance.Again c)
  visits_skip d =
      visit_is true (won_on (table_to t m.nodes i).foundation) (leb 200 (length (line_to t m.nodes i)))
      (ap not (ne_eqb (costs.cost_at m.costs (nodes.slot_at m.nodes i)) (nodes.cost_at m.nodes i) d)) refl refl

  module _ (current : costs.cost_at m.costs (nodes.slot_at m.nodes i) ≡ nodes.cost_at m.nodes i) where
    not_skipped : not (eqb (costs.cost_at m.costs (nodes.slot_at m.nodes i)) (nodes.cost_at m.nodes i)) ≡ false
    not_skipped = ap not (eq-eqb (costs.cost_at m.costs (nodes.slot_at m.nodes i)) (nodes.cost_at m.nodes i) current)

    pub visits_won : won_on (table_to t m.nodes i).foundation ≡ true → visited ≡ turn_of t r m (advance.WonBy i c)
    unfolding node_of state_of
    visits_won q = visit_is false true (leb 200 (length (line_to t m.nodes i))) not_skipped q refl

    module _ (unwon : won_on (table_to t m.nodes i).foundation ≡ false) where
      -- skipped at the depth limit
      pub visits_deep : 200 ≤ nodes.cost_at m.nodes i → visited ≡ turn_of t r m (advance.Again c)
      visits_deep l =
          visit_is false false true not_skipped unwon
          (le-leb 200 (length (line_to t m.nodes i)) (let e = k.nodes.cost i born in omega arith))

      -- expanded
      pub visits_on : nodes.cost_at m.nodes i < 200
          → visited ≡ grown_turn freecell c.pops (expand freecell r.capacity (node_of t m.nodes i) (candidates (table_to t m.nodes i)) (state_of t r m c))
      unfolding node_of state_of
      visits_on l =
          visit_is false false false not_skipped unwon
          (lt-leb 200 (length (line_to t m.nodes i)) (let e = k.nodes.cost i born in omega arith))

-- ---- a turn: the first that waits is taken and visited

-- from the memory m and the counts c one turn leads on as `a` says, in the memory `new`
pub record Turns (t : Table) (r : Room) (m : Memory) (c : Counts) (new : Memory) (a : Advance) : Type 0 where
  pub on : (go : State freecell → End freecell)
      → go_on freecell r.capacity (state_of t r m c).waiting (state_of t r m c) go ≡ onward freecell (turn_of t r new a) go

module _ {t : Table} {r : Room} {m : Memory} {c : Counts} (k : Machine t r m c) {X : List ℕ} {key : ℕ} (some : 0 < c.waiting)
    (w : Takes m.heap X c.waiting key) where
  pub turn_is : (new : Memory) (a : Advance)
      → visit freecell r.capacity (node_of t m.nodes (key % 4294967296)) (state_of t r (with_heap m X) (popped c)) ≡ turn_of t r new a
      → Turns t r m c new a
  turn_is new a e =
      record {
        on = λ go.
            ap (λ (l : List (Node freecell)). go_on freecell r.capacity l (state_of t r m c) go) (waiting_taken k some w)
            ∙ ap (λ (s : State freecell). onward freecell (visit freecell r.capacity (node_of t m.nodes (key % 4294967296)) s) go) (sym (state_taken k some w))
            ∙ ap (λ (x : Turn freecell). onward freecell x go) e;
      }

  pub turns_skip : (costs.cost_at m.costs (nodes.slot_at m.nodes (key % 4294967296)) ≡ nodes.cost_at m.nodes (key % 4294967296) → ⊥)
      → Turns t r m c (with_heap m X) (advance.Again (popped c))
  turns_skip d =
      turn_is (with_heap m X) (advance.Again (popped c)) (visits_skip (machine_taken k some w) (key % 4294967296) (taken_born k some w) d)
