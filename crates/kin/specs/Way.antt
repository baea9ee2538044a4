-- Ways to the root. Nodes lie at places: the root at place 0, and every other node points to its parent's place.
use Rattle.std.specs.Prelude.{Bool, List, [], ◌∷◌, ◌++◌, ℕ, zero, suc, ltb}
use Rattle.base.specs.Words.{occurs}

-- from place i up to the root: i, its parent, .., 0; at most `fuel` parents are asked
unfoldable pub way_up : (ℕ → ℕ) → ℕ → ℕ → List ℕ
way_up parent zero i = i ∷ []
way_up parent (suc fuel) zero = 0 ∷ []
way_up parent (suc fuel) (suc k) = suc k ∷ way_up parent fuel (parent (suc k))

-- a parent costs less than its child, so that above a place there are at most as many as it costs
unfoldable pub way : (ℕ → ℕ) → (ℕ → ℕ) → ℕ → List ℕ
way parent cost i = way_up parent (cost i) i

-- the ways from some marked places, one after the other
unfoldable pub ways : (ℕ → ℕ) → (ℕ → ℕ) → List ℕ → List ℕ
ways parent cost [] = []
ways parent cost (m ∷ marks) = way parent cost m ++ ways parent cost marks

-- place k is needed for some marks: it is on the way from one of them
unfoldable pub is_needed : (ℕ → ℕ) → (ℕ → ℕ) → List ℕ → ℕ → Bool
is_needed parent cost marks k = ltb 0 (occurs k (ways parent cost marks))

-- what is said of each of some places, as its birth
unfoldable pub each : (ℕ → ℕ) → List ℕ → List ℕ
each f [] = []
each f (k ∷ l) = f k ∷ each f l
