-- A table in two lists: entry i is for the key keys[i], and costs[i] is its cost + 1, or 0 while the entry is free.
use Rattle.std.specs.Prelude.{Bool, cond, ◌&&◌, List, ℕ, ◌-◌, eqb, ltb, get_or}
use Rattle.base.specs.Words.{sum}

-- entry i is used
unfoldable pub is_used : List ℕ → ℕ → Bool
is_used costs i = ltb 0 (get_or costs i 0)

-- the cost of a used entry
unfoldable pub cost_at : List ℕ → ℕ → ℕ
cost_at costs i = get_or costs i 0 - 1

-- entry i is for key k
unfoldable pub holds : List ℕ → List ℕ → ℕ → ℕ → Bool
holds keys costs i k = is_used costs i && eqb (get_or keys i 0) k

-- how many of the first n entries are used
unfoldable pub used : List ℕ → ℕ → ℕ
used costs n = sum n (λ i. cond (is_used costs i) 1 0)
