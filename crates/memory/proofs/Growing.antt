-- A node's candidates, one after the other: what is left to expand from here is what the whole expansion gives.
use Rattle.std.specs.Prelude.{Some}
use mathlib.Core.Path.{◌≡◌, refl, sym, ap, ap₂, ◌∙◌, subst}
use mathlib.Core.Bool.{Bool, true, false}
use mathlib.Core.List.{List, [], ◌∷◌}
use Prim.Native.Nat.{ℕ, zero, suc, ◌+◌, ◌<◌, ◌≤◌}
use native.Mathlib.Numerals.{add-one}
use native.Mathlib.Omega.{arith}
use lib.ListN.{length, get_or, drop, drop_of_length-le}
use lib.Seq.{drop-cons}
use Rattle.base.proofs.Words.{length-listed, get_or-listed}
use Rattle.board.specs.Table.{Table}
use Rattle.board.specs.Fair.{Fair}
use Rattle.moves.specs.declared.Move.{Move}
use Rattle.candidates.specs.Candidates.{candidates}
use Rattle.candidates.specs.Inner.{Playable, AllPlayable, move_at, moves_in}
use Rattle.candidates.proofs.Trying.{all-candidates}
use Rattle.nodes.specs.Line.{line_to, table_to}
use Rattle.search.specs.Freecell.{freecell}
use Rattle.search.specs.Solve.{Node, State, Grown, out_of_nodes, grown, child_of, dropped, no_room, bearing, born_as, bear, then_grow, expand}
use Rattle.memory.specs.declared.Room.{Room}
use Rattle.memory.specs.declared.Counts.{Counts}
use Rattle.memory.specs.Memory.{Memory}
use Rattle.memory.specs.View.{node_of, state_of, grown_of}
use Rattle.memory.specs.Machine.{Machine}

-- ---- candidate k is record k

module _ (bytes : List ℕ) {n : ℕ} {ms : List Move} (e : moves_in bytes n ≡ ms) where
  pub many_moves : length ms ≡ n
  unfolding moves_in
  many_moves = ap length (sym e) ∙ length-listed (move_at bytes) n

  pub next_move : (k : ℕ) → k < n → drop k ms ≡ move_at bytes k ∷ drop (k + 1) ms
  unfolding moves_in
  next_move k b =
      drop-cons ms k (move_at bytes k) (let l = many_moves in omega arith)
      ∙ ap₂ (λ (x : Move) (j : ℕ). x ∷ drop j ms) (ap (λ (l : List Move). get_or l k (move_at bytes k)) (sym e) ∙ get_or-listed (move_at bytes) n k (move_at bytes k) b)
      (sym (add-one k))

drop_playable : (t : Table) (k : ℕ) (ms : List Move) → AllPlayable t ms → AllPlayable t (drop k ms)
drop_playable t zero ms a = a
drop_playable t (suc k) [] a = tt
drop_playable t (suc k) (m ∷ ms) a = drop_playable t k ms a.1

-- and can be played
pub next_playable : {t : Table} (bytes : List ℕ) {n : ℕ} → Fair t → moves_in bytes n ≡ candidates t → (k : ℕ) → k < n → Playable t (move_at bytes k)
next_playable {t} bytes f e k b = (subst (AllPlayable t) (next_move bytes e k b) (drop_playable t k (candidates t) (all-candidates t f))).0

-- ---- a child leaves the pops, and takes no birth back

module _ (s : State freecell) where
  pub record Further (u : State freecell) : Type 0 where
    pub pops : u.pops ≡ s.pops
    pub born : s.born ≤ u.born

  abbrev GrownFurther : Grown freecell → Type 0
  GrownFurther out_of_nodes = Unit {0}
  GrownFurther (grown u) = Further u

  born_further : (a b : Bool) (n : Node freecell) → GrownFurther (born_as freecell a b n s)
  unfolding bearing
  born_further true b n = record { pops = refl; born = omega arith }
  born_further false true n = tt
  born_further false false n = record { pops = refl; born = omega arith }

  bear_further : (capacity : ℕ) (n : Node freecell) (move : Move) (u : State freecell) → bear freecell capacity n move s ≡ grown u → Further u
  unfolding bear
  bear_further capacity n move u e =
      subst GrownFurther e (born_further (dropped freecell (child_of freecell n move s) s) (no_room freecell capacity s) (child_of freecell n move s))

-- ---- the loop: from m₀ and c₀ the first k of node i's candidates were tried

pub record Growing (t : Table) (r : Room) (m₀ : Memory) (c₀ : Counts) (i : ℕ) (ms : List Move) (m : Memory) (c : Counts) (k : ℕ) : Type 0 where
  pub machine : Machine t r m c
  pub kept : node_of t m.nodes i ≡ node_of t m₀.nodes i
  pub more : c₀.born ≤ c.born
  pub pops : c.pops ≡ c₀.pops
  pub left : expand freecell r.capacity (node_of t m₀.nodes i) ms (state_of t r m₀ c₀)
      ≡ expand freecell r.capacity (node_of t m₀.nodes i) (drop k ms) (state_of t r m c)

pub growing_start : {t : Table} {r : Room} {m : Memory} {c : Counts} → Machine t r m c → (i : ℕ) (ms : List Move) → Growing t r m c i ms m c 0
growing_start k i ms = record { machine = k; kept = refl; more = omega arith; pops = refl; left = refl }

module _ {t : Table} {r : Room} {m₀ : Memory} {c₀ : Counts} {i : ℕ} {ms : List Move} {m : Memory} {c : Counts} {k : ℕ}
    (g : Growing t r m₀ c₀ i ms m c k) where
  -- the node's table and line are as they were
  pub kept_table : table_to t m.nodes i ≡ table_to t m₀.nodes i
  unfolding node_of
  kept_table = ap (λ (n : Node freecell). n.board) g.kept

  pub kept_line : line_to t m.nodes i ≡ line_to t m₀.nodes i
  unfolding node_of
  kept_line = ap (λ (n : Node freecell). n.line) g.kept

  pub growing_end : length ms ≤ k → expand freecell r.capacity (node_of t m₀.nodes i) ms (state_of t r m₀ c₀) ≡ grown_of t r m (Some c)
  unfolding expand
  growing_end l = g.left ∙ ap (λ (l : List Move). expand freecell r.capacity (node_of t m₀.nodes i) l (state_of t r m c)) (drop_of_length-le ms l)

  module _ {move : Move} (next : drop k ms ≡ move ∷ drop (k + 1) ms) where
    step_is : {x : Grown freecell} → bear freecell r.capacity (node_of t m.nodes i) move (state_of t r m c) ≡ x
        → expand freecell r.capacity (node_of t m₀.nodes i) ms (state_of t r m₀ c₀)
        ≡ then_grow freecell x (expand freecell r.capacity (node_of t m₀.nodes i) (drop (k + 1) ms))
    unfolding expand
    step_is e =
        g.left
        ∙ ap (λ (l : List Move). expand freecell r.capacity (node_of t m₀.nodes i) l (state_of t r m c)) next
        ∙ ap (λ (x : Grown freecell). then_grow freecell x (expand freecell r.capacity (node_of t m₀.nodes i) (drop (k + 1) ms)))
        (ap (λ (n : Node freecell). bear freecell r.capacity n move (state_of t r m c)) (sym g.kept) ∙ e)

    pub growing_turn : {new : Memory} {c' : Counts} → bear freecell r.capacity (node_of t m.nodes i) move (state_of t r m c) ≡ grown_of t r new (Some c')
        → Machine t r new c' → node_of t new.nodes i ≡ node_of t m.nodes i → Growing t r m₀ c₀ i ms new c' (k + 1)
    unfolding state_of
    growing_turn {new} {c'} e h n =
        let u = bear_further (state_of t r m c) r.capacity (node_of t m.nodes i) move (state_of t r new c') e in
        record {
          machine = h;
          kept = n ∙ g.kept;
          more = let a = u.born in let b = g.more in omega arith;
          pops = u.pops ∙ g.pops;
          left = step_is e;
        }

    pub growing_full : bear freecell r.capacity (node_of t m.nodes i) move (state_of t r m c) ≡ out_of_nodes
        → expand freecell r.capacity (node_of t m₀.nodes i) ms (state_of t r m₀ c₀) ≡ out_of_nodes
    growing_full e = step_is e
