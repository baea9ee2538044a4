-- The steps from a node up to the root: they depend on the nodes passed only, and a node has its parent's and its own.
use mathlib.Core.Path.{◌≡◌, refl, ap, ap₂, ◌∙◌}
use mathlib.Core.List.{List, [], ◌∷◌, ◌++◌}
use Prim.Native.Nat.{ℕ, zero, suc, ◌<◌, ◌≤◌}
use native.Mathlib.Omega.{arith}
use Rattle.board.specs.Table.{Table}
use Rattle.candidates.specs.Children.{child_moves, child_table}
use Rattle.nodes.specs.Step.{parent_at, step_at, move_at}
use Rattle.nodes.specs.Line.{steps_up, steps_to, table_by, line_by, table_to, line_to}
use Rattle.nodes.specs.Nodes.{Linked}

-- two lists of words that agree on the nodes below n
pub record Agree (words others : List ℕ) (n : ℕ) : Type 0 where
  pub parents : (i : ℕ) → i < n → parent_at words i ≡ parent_at others i
  pub steps : (i : ℕ) → i < n → step_at words i ≡ step_at others i

-- as many parents as there are older nodes are enough
same_steps : {words others : List ℕ} {n : ℕ} → Linked words n → Agree words others n
    → (fuel more i : ℕ) → i < n → i ≤ fuel → i ≤ more → steps_up words fuel i ≡ steps_up others more i
unfolding steps_up
same_steps l a zero zero i b h k = refl
same_steps l a zero (suc more) zero b h k = refl
same_steps l a zero (suc more) (suc i) b h k = absurd (let z : ⊥ = omega arith in z)
same_steps l a (suc fuel) zero zero b h k = refl
same_steps l a (suc fuel) zero (suc i) b h k = absurd (let z : ⊥ = omega arith in z)
same_steps l a (suc fuel) (suc more) zero b h k = refl
same_steps {words} {others} l a (suc fuel) (suc more) (suc i) b h k =
    let o = l.older (suc i) (omega arith) b in
    ap₂ (λ (w : ℕ) (ws : List ℕ). w ∷ ws) (a.steps (suc i) b)
    (same_steps l a fuel more (parent_at words (suc i)) (omega arith) (omega arith) (omega arith)
    ∙ ap (steps_up others more) (a.parents (suc i) b))

agree_self : (words : List ℕ) (n : ℕ) → Agree words words n
agree_self words n = record { parents = λ i h. refl; steps = λ i h. refl }

-- ---- the root

pub steps_root : (words : List ℕ) → steps_to words 0 ≡ []
unfolding steps_to steps_up
steps_root words = refl

module _ (t : Table) (words : List ℕ) where
  pub line_root : line_to t words 0 ≡ []
  unfolding line_to line_by
  line_root = ap (line_by t) (steps_root words)

  pub table_root : table_to t words 0 ≡ t
  unfolding table_to table_by
  table_root = ap (table_by t) (steps_root words)

-- ---- a node and its parent

module _ {words : List ℕ} {n : ℕ} (l : Linked words n) (i : ℕ) (some : 0 < i) (b : i < n) where
  pub steps_next : steps_to words i ≡ step_at words i ∷ steps_to words (parent_at words i)
  unfolding steps_to steps_up
  steps_next = by_number i some b
    where
      by_number : (j : ℕ) → 0 < j → j < n → steps_to words j ≡ step_at words j ∷ steps_to words (parent_at words j)
      by_number zero s h = absurd (let z : ⊥ = omega arith in z)
      by_number (suc j) s h =
          let o = l.older (suc j) s h in
          ap (λ (ws : List ℕ). step_at words (suc j) ∷ ws)
          (same_steps l (agree_self words n) j (parent_at words (suc j)) (parent_at words (suc j)) (omega arith) (omega arith) (omega arith))

  module _ (t : Table) where
    pub line_next : line_to t words i ≡ line_to t words (parent_at words i) ++ child_moves (table_to t words (parent_at words i)) (move_at words i)
    unfolding line_to line_by table_to move_at
    line_next = ap (line_by t) steps_next

    pub table_next : table_to t words i ≡ child_table (table_to t words (parent_at words i)) (move_at words i)
    unfolding table_to table_by move_at
    table_next = ap (table_by t) steps_next

-- ---- words that agree

module _ {words others : List ℕ} {n : ℕ} (l : Linked words n) (a : Agree words others n) (i : ℕ) (b : i < n) where
  pub steps_same : steps_to words i ≡ steps_to others i
  unfolding steps_to
  steps_same = same_steps l a i i i b (omega arith) (omega arith)

  pub line_same : (t : Table) → line_to t words i ≡ line_to t others i
  unfolding line_to
  line_same t = ap (line_by t) steps_same

  pub table_same : (t : Table) → table_to t words i ≡ table_to t others i
  unfolding table_to
  table_same t = ap (table_by t) steps_same
