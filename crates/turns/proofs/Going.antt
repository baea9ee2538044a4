-- The run, turn after turn, and how it ends.
use mathlib.Core.Path.{◌≡◌, refl, ap, ◌∙◌, subst}
use Prim.Native.Nat.{ℕ, ◌+◌, ◌<◌, ◌≤◌}
use Rattle.board.specs.Record.{shown}
use Rattle.board.specs.declared.Board.{Board}
use Rattle.memory.specs.declared.Room.{Room}
use Rattle.memory.specs.declared.Counts.{Counts}
use Rattle.memory.specs.declared.Advance.{Advance}
use Rattle.memory.specs.declared.Advance.TheVariants as advance
use Rattle.memory.specs.declared.Ended.TheVariants as ended
use Rattle.memory.specs.Memory.{Memory}
use Rattle.memory.specs.View.{state_of}
use Rattle.memory.specs.Machine.{Machine}
use Rattle.memory.proofs.Visiting.{Turns}
use Rattle.memory.proofs.Running.{Running, running_start, running_exhausted, running_limit, running_turn, running_won, running_stuck}
use Rattle.children.specs.Inner.{SameSize}
use Rattle.turns.specs.Inner.{Advances, Goes}
use Rattle.children.proofs.Expanding.{sized}

-- so many turns were made
pub record Going (root : Board) (r : Room) (budget : ℕ) (m₀ : Memory) (c₀ : Counts) (m : Memory) (c : Counts) (made : ℕ) : Type 0 where
  pub size : SameSize m₀ m
  pub machine : Machine (shown root) r m c
  pub spent : c.pops ≡ made
  pub running : Running (shown root) r budget (state_of (shown root) r m₀ c₀) made m c

pub going_start : {root : Board} {r : Room} {m : Memory} {c : Counts} (budget : ℕ) → Machine (shown root) r m c → c.pops ≡ 0 → Going root r budget m c m c 0
going_start {root} {r} {m} {c} budget k e =
    record {
      size = record { nodes = refl; heap = refl; keys = refl; costs = refl };
      machine = k;
      spent = e;
      running = running_start (shown root) r budget refl;
    }

module _ {root : Board} {r : Room} {budget : ℕ} {m₀ : Memory} {c₀ : Counts} {m : Memory} {c : Counts} {made : ℕ} (g : Going root r budget m₀ c₀ m c made) where
  pub going_limit : budget ≤ made → 0 < c.waiting → Goes root r budget m₀ m c₀ (ended.Limit c)
  going_limit e w = record { closed = (g.machine.best, g.machine.nodes); ends = running_limit g.running g.machine e w }

  pub going_exhausted : c.waiting ≡ 0 → Goes root r budget m₀ m c₀ (ended.Exhausted c)
  going_exhausted w = record { closed = (g.machine.best, g.machine.nodes); ends = running_exhausted g.running w }

  module _ (more : made < budget) {new : Memory} {a : Advance} (y : Advances root r m new c a) where
    advanced : {b : Advance} → a ≡ b → Advances root r m new c b
    advanced q = subst (Advances root r m new c) q y

    turns : {b : Advance} → a ≡ b → Turns (shown root) r m c new b
    turns q = record { on = (advanced q).turns }

    pub going_turn : {d : Counts} → a ≡ advance.Again d → SameSize m new → Going root r budget m₀ c₀ new d (made + 1)
    going_turn q z =
        let w = (advanced q).went in
        record { size = sized g.size z; machine = w.0; spent = w.1 ∙ ap (λ (n : ℕ). n + 1) g.spent; running = running_turn g.running more (turns q) }

    pub going_won : {i : ℕ} {d : Counts} → a ≡ advance.WonBy i d → Goes root r budget m₀ new c₀ (ended.Won i d)
    going_won q = record { closed = (advanced q).went; ends = running_won g.running more (turns q) }

    pub going_stuck : {p : ℕ} → a ≡ advance.OutOfNodes p → Goes root r budget m₀ new c₀ (ended.OutOfNodes p)
    going_stuck q = record { closed = tt; ends = running_stuck g.running more (turns q) }
