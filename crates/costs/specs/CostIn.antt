-- What a table means: the best cost known for a key, if there is one.
use Rattle.std.specs.Prelude.{cond, List, ℕ, zero, suc}
use Rattle.costs.specs.Entries.{holds, cost_at}

pub data KnownCost : Type 0 where
  unknown : KnownCost
  known : ℕ → KnownCost

-- the first of two that is known
abbrev pub or_else : KnownCost → KnownCost → KnownCost
or_else unknown b = b
or_else (known c) b = known c

-- the cost at the first of n entries that is for the key
unfoldable pub cost_in : List ℕ → List ℕ → ℕ → ℕ → KnownCost
cost_in keys costs zero k = unknown
cost_in keys costs (suc n) k = or_else (cost_in keys costs n k) (cond (holds keys costs n k) (known (cost_at costs n)) unknown)
