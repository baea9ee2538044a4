-- A root with two children, at places 1 and 2, of which the second has one, at place 3. Place 3 waits, place 1 is the best.
use mathlib.Core.Path.{◌≡◌, refl}
use mathlib.Core.Bool.{true, false}
use mathlib.Core.List.{List, [], ◌∷◌}
use Prim.Native.Nat.{ℕ}
use lib.ListN.{get_or}
use Rattle.base.specs.Words.{occurs, sum, listed}
use Rattle.kin.specs.Way.{way_up, way, ways, is_needed}
use Rattle.kin.specs.Counted.{is_held, held, is_child, children}
use Rattle.kin.specs.Places.{parent_at, refs_at, counting, keeps, given_back, next_place}

abbrev parent : ℕ → ℕ
parent i = get_or (0 ∷ 0 ∷ 0 ∷ 2 ∷ []) i 0

abbrev cost : ℕ → ℕ
cost i = get_or (0 ∷ 1 ∷ 2 ∷ 5 ∷ []) i 0

abbrev refs : ℕ → ℕ
refs i = get_or (2 ∷ 1 ∷ 1 ∷ 1 ∷ []) i 0

pub all-needed : (way parent cost 3 ≡ 3 ∷ 2 ∷ 0 ∷ []) × (ways parent cost (3 ∷ 1 ∷ []) ≡ 3 ∷ 2 ∷ 0 ∷ 1 ∷ 0 ∷ [])
    × (listed 4 (λ k. is_needed parent cost (3 ∷ 1 ∷ []) k) ≡ true ∷ true ∷ true ∷ true ∷ []) × (held 4 refs ≡ 4)
unfolding way_up way ways is_needed occurs listed held is_held sum
all-needed = (refl, refl, refl, refl)

-- once place 3 waits no more, 3 and 2 are dead
pub two_dead : listed 4 (λ k. is_needed parent cost (1 ∷ []) k) ≡ true ∷ true ∷ false ∷ false ∷ []
unfolding way_up way ways is_needed occurs listed
two_dead = refl

pub two_children : (children 4 parent refs 0 ≡ 2) × (children 4 parent refs 2 ≡ 1) × (children 4 parent refs 3 ≡ 0)
unfolding children is_child is_held sum
two_children = (refl, refl, refl)

-- the same in lent words, with room for four: place 3 loses its mark, so that 3 and 2 are given back, and 2 is taken next
abbrev words : ℕ → ℕ → ℕ → List ℕ
words root second third = 0 ∷ 0 ∷ 7 ∷ 0 ∷ root ∷ 0 ∷ 1 ∷ 7 ∷ 1 ∷ 1 ∷ 0 ∷ 2 ∷ 7 ∷ 2 ∷ second ∷ 2 ∷ 5 ∷ 7 ∷ 3 ∷ third ∷ []

pub two_given_back : given_back 4 4 (words 2 1 1) (9 ∷ 9 ∷ 9 ∷ 9 ∷ []) 4 3 ≡ keeps (words 1 0 0) (9 ∷ 9 ∷ 2 ∷ 3 ∷ []) 2
unfolding given_back parent_at refs_at counting
two_given_back = refl

pub taken_next : (next_place (9 ∷ 9 ∷ 2 ∷ 3 ∷ []) 4 4 2 ≡ 2) × (next_place (9 ∷ 9 ∷ 2 ∷ 3 ∷ []) 4 4 3 ≡ 3) × (next_place (9 ∷ 9 ∷ 9 ∷ 9 ∷ []) 4 2 2 ≡ 2)
unfolding next_place
taken_next = (refl, refl, refl)
