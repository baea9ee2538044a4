-- A turn of the search: a node is taken, and skipped, won, too deep or expanded.
use Rattle.std.specs.Prelude.{None, Some, Option}
use mathlib.Core.Path.{◌≡◌, refl, sym, ap, ◌∙◌, subst}
use mathlib.Core.Bool.{Bool, true, false}
use mathlib.Core.List.{List}
use Prim.Native.Nat.{ℕ, ◌%◌, ◌<◌, ◌≤◌}
use native.Mathlib.Omega.{arith}
use Rattle.board.specs.Table.{Table}
use Rattle.board.specs.Record.{shown, board_of}
use Rattle.board.specs.Inner.{Sound}
use Rattle.board.specs.declared.Board.{Board}
use Rattle.board.proofs.Fair.{shows_fair}
use Rattle.questions.specs.Questions.{won_on}
use Rattle.questions.proofs.Asking.{shown_foundation}
use Rattle.frontier.specs.Heap.{Takes}
use Rattle.costs.specs.Entries as costs
use Rattle.nodes.specs.Step.{slot_at, cost_at}
use Rattle.nodes.specs.Line.{table_to}
use Rattle.nodes.proofs.Reaching.{node_shown}
use Rattle.search.specs.Freecell.{freecell}
use Rattle.search.specs.Solve.{grown_turn}
use Rattle.memory.specs.declared.Room.{Room}
use Rattle.memory.specs.declared.Counts.{Counts}
use Rattle.memory.specs.declared.Advance.{Advance}
use Rattle.memory.specs.declared.Advance.TheVariants as advance
use Rattle.memory.specs.Memory.{Memory}
use Rattle.memory.specs.Machine.{Machine}
use Rattle.memory.specs.Steps.{with_heap, popped}
use Rattle.memory.proofs.Taking.{taken_born, machine_taken}
use Rattle.memory.proofs.Visiting.{visits_won, visits_deep, visits_on, turns_skip, turn_is}
use Rattle.children.specs.Inner.{Stands, Expands}
use Rattle.turns.specs.Inner.{Stood, Visits, Advances}

module _ {root : Board} {r : Room} {m : Memory} {c : Counts} {i : ℕ} (s : Stood root r m c i) {b : Board} (e : b ≡ board_of (table_to (shown root) m.nodes i)) (sound : Sound b) where
  shows : shown b ≡ table_to (shown root) m.nodes i
  shows = ap shown e ∙ node_shown s.machine.nodes i s.born (shows_fair s.begins)

  pub stands : Stands root r m c i b
  stands = record { begins = s.begins; machine = s.machine; born = s.born; sound = sound; shows = shows }

  module _ {w : Bool} (q : w ≡ won_on b.foundation) where
    won_is : won_on (table_to (shown root) m.nodes i).foundation ≡ w
    won_is = sym (q ∙ ap won_on (shown_foundation b) ∙ ap (λ (t : Table). won_on t.foundation) shows)

    pub visit_won : w ≡ true → Visits root r m m c i (advance.WonBy i c)
    visit_won h = record { went = (s.born, s.machine.nodes); turns = visits_won s.machine i s.born s.current (won_is ∙ h) }

    module _ (h : w ≡ false) {cost : ℕ} (k : cost ≡ cost_at m.nodes i) where
      pub visit_deep : 200 ≤ cost → Visits root r m m c i (advance.Again c)
      visit_deep l = record { went = (s.machine, refl); turns = visits_deep s.machine i s.born s.current (won_is ∙ h) (omega arith) }

      pub visit_full : {new : Memory} → cost < 200 → Expands root r m new c i None → Visits root r m new c i (advance.OutOfNodes c.pops)
      visit_full l x =
          record {
            went = x.grew;
            turns = visits_on s.machine i s.born s.current (won_is ∙ h) (omega arith) ∙ ap (grown_turn freecell c.pops) x.grows;
          }

      pub visit_grown : {new : Memory} {d : Counts} → cost < 200 → Expands root r m new c i (Some d) → Visits root r m new c i (advance.Again d)
      visit_grown l x =
          record {
            went = (x.grew.machine, x.grew.pops);
            turns = visits_on s.machine i s.born s.current (won_is ∙ h) (omega arith) ∙ ap (grown_turn freecell c.pops) x.grows;
          }

-- ---- taking

module _ {root : Board} (begins : Sound root) {r : Room} {m : Memory} {c : Counts} (k : Machine (shown root) r m c) {X : List ℕ} {key : ℕ} (some : 0 < c.waiting)
    (w : Takes m.heap X c.waiting key) where
  pub advance_skips : (costs.cost_at m.costs (slot_at m.nodes (key % 4294967296)) ≡ cost_at m.nodes (key % 4294967296) → ⊥)
      → Advances root r m (with_heap m X) c (advance.Again (popped c))
  advance_skips d = record { went = (machine_taken k some w, refl); turns = (turns_skip k some w d).on }

  pub advance_stood : costs.cost_at m.costs (slot_at m.nodes (key % 4294967296)) ≡ cost_at m.nodes (key % 4294967296)
      → Stood root r (with_heap m X) (popped c) (key % 4294967296)
  advance_stood e = record { begins = begins; machine = machine_taken k some w; born = taken_born k some w; current = e }

  pub advance_visits : {new : Memory} {a : Advance} → Visits root r (with_heap m X) new (popped c) (key % 4294967296) a → Advances root r m new c a
  advance_visits {new} {a} v = record { went = v.went; turns = (turn_is k some w new a v.turns).on }

-- ---- an expansion, when it is known how it ended

module _ {root : Board} {r : Room} {m new : Memory} {c : Counts} {i : ℕ} {g : Option Counts} (x : Expands root r m new c i g) where
  pub full_expands : g ≡ None → Expands root r m new c i None
  full_expands q = subst (Expands root r m new c i) q x

  pub grown_expands : {d : Counts} → g ≡ Some d → Expands root r m new c i (Some d)
  grown_expands q = subst (Expands root r m new c i) q x
