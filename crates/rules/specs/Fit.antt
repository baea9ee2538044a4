-- Which card a column or a foundation takes.
use Rattle.std.specs.Prelude.{Bool, true, List, [], ◌∷◌, ℕ, ◌+◌, ◌/◌, ◌%◌, eqb, get_or}
use Rattle.runs.specs.Follows.{follows}

-- a column takes a card: any if it is empty, else one that follows its top
unfoldable pub fits_on : List ℕ → ℕ → Bool
fits_on [] x = true
fits_on (y ∷ []) x = follows y x
fits_on (y ∷ z ∷ l) x = fits_on (z ∷ l) x

-- the foundation takes the next card of a suit
unfoldable pub home_takes : List ℕ → ℕ → Bool
home_takes foundation x = eqb (x / 16) (get_or foundation (x % 16) 0 + 1)
