-- What each case of a meaning says.
use Rattle.std.specs.Prelude.{◌≡◌, ℕ, ◌≤◌, Option, Some, None}

-- the count that fits, which is 0 where none does
abbrev pub Fitting : ℕ → Option ℕ → Type 0
Fitting count None = count ≡ 0
Fitting count (Some n) = (n ≡ count) × (1 ≤ n)
