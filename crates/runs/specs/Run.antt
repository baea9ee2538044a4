-- Runs: cards that follow one another, the deepest first.
use Rattle.std.specs.Prelude.{Bool, true, false, cond, ◌&&◌, List, [], ◌∷◌, ℕ, length}
use Rattle.runs.specs.Follows.{follows}

-- at least one card, and each follows the one under it
unfoldable pub is_run : List ℕ → Bool
is_run [] = false
is_run (x ∷ []) = true
is_run (x ∷ y ∷ l) = follows x y && is_run (y ∷ l)

-- the length of the longest run that ends at the top of a column
unfoldable pub run_length : List ℕ → ℕ
run_length [] = 0
run_length (x ∷ l) = cond (is_run (x ∷ l)) (length (x ∷ l)) (run_length l)
