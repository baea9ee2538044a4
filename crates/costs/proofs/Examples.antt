-- Three keys at home at entry 1 of three: 7 stands there, 4 after it, 10 on from the first entry.
use mathlib.Core.Path.{◌≡◌, refl}
use mathlib.Core.List.{List, [], ◌∷◌}
use Prim.Native.Nat.{ℕ}
use Rattle.costs.specs.Entries.{is_used, cost_at, holds}
use Rattle.costs.specs.CostIn.{unknown, known, cost_in}
use Rattle.costs.specs.Table.{home, away}

abbrev keys : List ℕ
keys = 10 ∷ 7 ∷ 4 ∷ []

abbrev costs : List ℕ
costs = 1 ∷ 6 ∷ 201 ∷ []

pub last_on : (cost_in keys costs 3 10 ≡ known 0) × (home 3 10 ≡ 1) × (away 3 10 0 ≡ 2)
unfolding cost_in holds is_used cost_at home away
last_on = (refl, refl, refl)

pub others : (cost_in keys costs 3 7 ≡ known 5) × (cost_in keys costs 3 4 ≡ known 200) × (cost_in keys costs 3 1 ≡ unknown)
unfolding cost_in holds is_used cost_at
others = (refl, refl, refl)

-- a key that stands in a free entry is no one's
pub freed : cost_in keys (1 ∷ 0 ∷ 201 ∷ []) 3 7 ≡ unknown
unfolding cost_in holds is_used cost_at
freed = refl
