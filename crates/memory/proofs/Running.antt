-- A run, turn by turn: what is left to run from here is what the whole run gives.
use mathlib.Core.Path.{◌≡◌, refl, sym, ap, ◌∙◌}
use mathlib.Core.List.{List, [], ◌∷◌}
use Prim.Native.Nat.{ℕ, zero, suc, ◌+◌, ◌-◌, ◌<◌, ◌≤◌}
use native.Mathlib.Omega.{arith}
use lib.ListN.{length}
use Rattle.board.specs.Table.{Table}
use Rattle.search.specs.Freecell.{freecell}
use Rattle.search.specs.Solve.{Node, State, limit, exhausted, onward, stopped, go_on, run}
use Rattle.memory.specs.declared.Room.{Room}
use Rattle.memory.specs.declared.Counts.{Counts}
use Rattle.memory.specs.declared.Advance.{Advance}
use Rattle.memory.specs.declared.Advance.TheVariants as advance
use Rattle.memory.specs.declared.Ended.TheVariants as ended
use Rattle.memory.specs.Memory.{Memory}
use Rattle.memory.specs.View.{state_of, turn_of, end_of}
use Rattle.memory.specs.Machine.{Machine}
use Rattle.memory.proofs.Taking.{none_waits, length_waiting}
use Rattle.memory.proofs.Visiting.{Turns}

-- q of the turns that the budget allows were made, from state s
pub record Running (t : Table) (r : Room) (budget : ℕ) (s : State freecell) (q : ℕ) (m : Memory) (c : Counts) : Type 0 where
  pub within : q ≤ budget
  pub left : run freecell budget r.capacity s ≡ run freecell (budget - q) r.capacity (state_of t r m c)

pub running_start : (t : Table) (r : Room) (budget : ℕ) {s : State freecell} {m : Memory} {c : Counts} → state_of t r m c ≡ s → Running t r budget s 0 m c
running_start t r budget {s} {m} {c} e =
    record {
      within = omega arith;
      left = ap (run freecell budget r.capacity) (sym e) ∙ ap (λ (n : ℕ). run freecell n r.capacity (state_of t r m c)) (let q : budget ≡ budget - 0 = omega arith in q);
    }

-- a budget that is left allows a turn
run_on : (n capacity : ℕ) (s : State freecell) → run freecell (suc n) capacity s ≡ go_on freecell capacity s.waiting s (run freecell n capacity)
unfolding run
run_on n capacity s = refl

run_none : (n capacity : ℕ) (s : State freecell) → s.waiting ≡ [] → run freecell n capacity s ≡ exhausted s
unfolding run
run_none zero capacity s e = ap (λ (l : List (Node freecell)). stopped freecell l s) e
run_none (suc n) capacity s e = ap (λ (l : List (Node freecell)). go_on freecell capacity l s (run freecell n capacity)) e

run_stopped : (capacity : ℕ) (s : State freecell) → 0 < length s.waiting → run freecell 0 capacity s ≡ limit s
unfolding run
run_stopped capacity s b = by_list s.waiting b
  where
    by_list : (l : List (Node freecell)) → 0 < length l → stopped freecell l s ≡ limit s
    by_list [] b = absurd (let z : ⊥ = omega arith in z)
    by_list (n ∷ l) b = refl

module _ {t : Table} {r : Room} {budget : ℕ} {s : State freecell} {q : ℕ} {m : Memory} {c : Counts} (g : Running t r budget s q m c) where
  -- nothing waits
  pub running_exhausted : c.waiting ≡ 0 → run freecell budget r.capacity s ≡ end_of t r m (ended.Exhausted c)
  running_exhausted e = g.left ∙ run_none (budget - q) r.capacity (state_of t r m c) (none_waits t r m c e)

  -- the budget is spent, and something waits
  pub running_limit : Machine t r m c → budget ≤ q → 0 < c.waiting → run freecell budget r.capacity s ≡ end_of t r m (ended.Limit c)
  running_limit k b w =
      g.left
      ∙ ap (λ (n : ℕ). run freecell n r.capacity (state_of t r m c)) (let z : budget - q ≡ 0 = omega arith in z)
      ∙ run_stopped r.capacity (state_of t r m c) (let l = length_waiting k in omega arith)

  module _ (more : q < budget) {new : Memory} where
    turn_on : {a : Advance} → Turns t r m c new a → run freecell budget r.capacity s ≡ onward freecell (turn_of t r new a) (run freecell (budget - (q + 1)) r.capacity)
    turn_on e =
        g.left
        ∙ ap (λ (n : ℕ). run freecell n r.capacity (state_of t r m c)) (let z : budget - q ≡ suc (budget - (q + 1)) = omega arith in z)
        ∙ run_on (budget - (q + 1)) r.capacity (state_of t r m c) ∙ e.on (run freecell (budget - (q + 1)) r.capacity)

    pub running_turn : {c' : Counts} → Turns t r m c new (advance.Again c') → Running t r budget s (q + 1) new c'
    running_turn e = record { within = omega arith; left = turn_on e }

    pub running_won : {i : ℕ} {d : Counts} → Turns t r m c new (advance.WonBy i d) → run freecell budget r.capacity s ≡ end_of t r new (ended.Won i d)
    running_won e = turn_on e

    pub running_stuck : {pops : ℕ} → Turns t r m c new (advance.OutOfNodes pops) → run freecell budget r.capacity s ≡ end_of t r new (ended.OutOfNodes pops)
    running_stuck e = turn_on e
