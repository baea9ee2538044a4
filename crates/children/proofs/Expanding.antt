-- The children of a node, one after the other.
use Rattle.std.specs.Prelude.{None, Some, Option}
use mathlib.Core.Path.{◌≡◌, refl, sym, ap, ◌∙◌, subst}
use mathlib.Core.List.{List, ◌∷◌}
use Prim.Native.Nat.{ℕ, ◌+◌, ◌-◌, ◌*◌, ◌<◌, ◌≤◌}
use native.Mathlib.Omega.{arith}
use lib.ListN.{length, take, drop}
use Rattle.board.specs.Record.{shown}
use Rattle.board.specs.declared.Board.{Board}
use Rattle.board.proofs.Fair.{shows_fair}
use Rattle.moves.specs.Record.{move_of}
use Rattle.moves.specs.declared.Move.{Move}
use Rattle.candidates.specs.Candidates.{candidates}
use Rattle.candidates.specs.Inner.{Playable, moves_in}
use Rattle.candidates.proofs.Listing.{part_move}
use Rattle.nodes.specs.Step.{cost_at}
use Rattle.nodes.specs.Line.{table_to}
use Rattle.memory.specs.declared.Room.{Room}
use Rattle.memory.specs.declared.Counts.{Counts}
use Rattle.memory.specs.Memory.{Memory}
use Rattle.memory.proofs.Growing.{many_moves, next_move, next_playable, Growing, growing_start, kept_table, kept_line, growing_end, growing_turn, growing_full}
use Rattle.children.specs.Inner.{SameSize, Stands, Bears, Expands}

-- sizes stay
pub sized : {a b c : Memory} → SameSize a b → SameSize b c → SameSize a c
sized x y = record { nodes = y.nodes ∙ x.nodes; heap = y.heap ∙ x.heap; keys = y.keys ∙ x.keys; costs = y.costs ∙ x.costs }

-- k of the n records are done
pub record Expanding (root : Board) (r : Room) (m₀ : Memory) (c₀ : Counts) (i : ℕ) (n : ℕ) (m : Memory) (c : Counts) (k : ℕ) : Type 0 where
  pub upto : k ≤ n
  pub size : SameSize m₀ m
  pub growing : Growing (shown root) r m₀ c₀ i (candidates (table_to (shown root) m₀.nodes i)) m c k

module _ {root : Board} {r : Room} {m₀ : Memory} {c₀ : Counts} {i : ℕ} {b : Board} (s : Stands root r m₀ c₀ i b) where
  pub expanding_start : (n : ℕ) → Expanding root r m₀ c₀ i n m₀ c₀ 0
  expanding_start n = record { upto = omega arith; size = record { nodes = refl; heap = refl; keys = refl; costs = refl }; growing = growing_start s.machine i (candidates (table_to (shown root) m₀.nodes i)) }

  module _ (list : List ℕ) {n : ℕ} (e : moves_in list n ≡ candidates (shown b)) {m : Memory} {c : Counts} {k : ℕ} (x : Expanding root r m₀ c₀ i n m c k) where
    moves_are : moves_in list n ≡ candidates (table_to (shown root) m₀.nodes i)
    moves_are = e ∙ ap candidates s.shows

    pub stands_on : Stands root r m c i b
    stands_on =
        record {
          begins = s.begins;
          machine = x.growing.machine;
          born = let a = s.born in let q = x.growing.more in omega arith;
          sound = s.sound;
          shows = s.shows ∙ sym (kept_table x.growing);
        }

    pub cost_on : {cost : ℕ} → cost ≡ cost_at m₀.nodes i → cost ≡ cost_at m.nodes i
    cost_on q =
        q ∙ s.machine.nodes.cost i s.born ∙ ap length (sym (kept_line x.growing))
        ∙ sym (x.growing.machine.nodes.cost i stands_on.born)

    pub playable_on : {move : Move} → k < n → move ≡ move_of (take (k * 5 + 5 - k * 5) (drop (k * 5) list)) → Playable (shown b) move
    playable_on h q = subst (Playable (shown b)) (sym (q ∙ part_move list k)) (next_playable list (shows_fair s.sound) e k h)

    module _ {move : Move} (h : k < n) (q : move ≡ move_of (take (k * 5 + 5 - k * 5) (drop (k * 5) list))) where
      next : drop k (candidates (table_to (shown root) m₀.nodes i)) ≡ move ∷ drop (k + 1) (candidates (table_to (shown root) m₀.nodes i))
      next = subst (λ (y : Move). drop k (candidates (table_to (shown root) m₀.nodes i)) ≡ y ∷ drop (k + 1) (candidates (table_to (shown root) m₀.nodes i))) (sym (q ∙ part_move list k)) (next_move list moves_are k h)

      pub expanding_turn : {new : Memory} {d : Counts} → Bears root r m new c i move (Some d) → SameSize m new → Expanding root r m₀ c₀ i n new d (k + 1)
      expanding_turn y z =
          record { upto = omega arith; size = sized x.size z; growing = growing_turn x.growing next y.grows y.grew.machine y.grew.same }

      pub expanding_full : {new : Memory} → Bears root r m new c i move None → Expands root r m₀ new c₀ i None
      expanding_full y = record { grew = y.grew; grows = growing_full x.growing next y.grows }

    pub expanding_end : n ≤ k → Expands root r m₀ m c₀ i (Some c)
    expanding_end h =
        record {
          grew = record { machine = x.growing.machine; more = x.growing.more; same = x.growing.kept; pops = x.growing.pops };
          grows = growing_end x.growing (let l = many_moves list moves_are in omega arith);
        }

-- ---- a child's growth, when it is known which

module _ {root : Board} {r : Room} {m new : Memory} {c : Counts} {i : ℕ} {move : Move} {g : Option Counts} (y : Bears root r m new c i move g) where
  pub full_bears : g ≡ None → Bears root r m new c i move None
  full_bears q = subst (Bears root r m new c i move) q y

  pub grown_bears : {d : Counts} → g ≡ Some d → Bears root r m new c i move (Some d)
  grown_bears q = subst (Bears root r m new c i move) q y
