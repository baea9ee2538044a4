-- Known hands P9 and P10 of SCOPE.md, by computation.
use mathlib.Core.Path.{◌≡◌, refl}
use mathlib.Core.List.{List, [], ◌∷◌}
use Prim.Native.Nat.{ℕ}
use Rattle.questions.specs.Questions.{empty_cells, empty_columns}
use Rattle.base.specs.Words.{sum}
use Rattle.rules.specs.Limit.{usable, most_moved}

abbrev empty : List ℕ
empty = 255 ∷ 255 ∷ 255 ∷ 255 ∷ []

abbrev full : List ℕ
full = 16 ∷ 17 ∷ 18 ∷ 19 ∷ []

abbrev some : List ℕ
some = 32 ∷ []

-- four empty cells, no empty column: 5 cards
pub P9 : most_moved empty (some ∷ some ∷ some ∷ some ∷ some ∷ some ∷ some ∷ some ∷ []) 0 ≡ 5
unfolding most_moved usable empty_cells empty_columns sum
P9 = refl

-- no empty cell, one empty column: 1 card into it, 2 elsewhere
pub P10_into : most_moved full ([] ∷ some ∷ some ∷ some ∷ some ∷ some ∷ some ∷ some ∷ []) 0 ≡ 1
unfolding most_moved usable empty_cells empty_columns sum
P10_into = refl

pub P10_elsewhere : most_moved full ([] ∷ some ∷ some ∷ some ∷ some ∷ some ∷ some ∷ some ∷ []) 1 ≡ 2
unfolding most_moved usable empty_cells empty_columns sum
P10_elsewhere = refl
