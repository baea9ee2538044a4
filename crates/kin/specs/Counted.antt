-- How often a place is pointed to. Some places are marked from outside, one of them perhaps more than once: nodes that wait, the one that
-- is expanded, the best. A place is held while its count is not 0.
use Rattle.std.specs.Prelude.{◌≡◌, Bool, cond, ◌&&◌, List, ℕ, ◌+◌, ◌<◌, ◌≤◌, eqb, ltb}
use Rattle.base.specs.Words.{occurs, sum}

unfoldable pub is_held : (ℕ → ℕ) → ℕ → Bool
is_held refs i = ltb 0 (refs i)

-- how many of the places below n are held
unfoldable pub held : ℕ → (ℕ → ℕ) → ℕ
held n refs = sum n (λ i. cond (is_held refs i) 1 0)

-- place i is held, and k is its parent; the root has none
unfoldable pub is_child : (ℕ → ℕ) → (ℕ → ℕ) → ℕ → ℕ → Bool
is_child parent refs k i = is_held refs i && (ltb 0 i && eqb k (parent i))

-- how many children of place k are held
unfoldable pub children : ℕ → (ℕ → ℕ) → (ℕ → ℕ) → ℕ → ℕ
children n parent refs k = sum n (λ i. cond (is_child parent refs k i) 1 0)

-- the counts of the places below n are right for these marks: how often a place is marked, and how many held places have it as their parent
pub record Counted (n : ℕ) (parent refs : ℕ → ℕ) (marks : List ℕ) : Type 0 where
  pub within : (k : ℕ) → n ≤ k → occurs k marks ≡ 0
  pub count : (k : ℕ) → k < n → refs k ≡ occurs k marks + children n parent refs k

-- every held place but the root has its parent below n, and the parent costs less
pub record Rooted (n : ℕ) (parent cost refs : ℕ → ℕ) : Type 0 where
  pub inside : (i : ℕ) → 0 < i → i < n → 0 < refs i → parent i < n
  pub lower : (i : ℕ) → 0 < i → i < n → 0 < refs i → cost (parent i) < cost i

-- the births of held places differ, and are below `born`
pub record Births (n born : ℕ) (refs birth : ℕ → ℕ) : Type 0 where
  pub below : (i : ℕ) → i < n → 0 < refs i → birth i < born
  pub own : (i j : ℕ) → i < n → j < n → 0 < refs i → 0 < refs j → birth i ≡ birth j → i ≡ j
