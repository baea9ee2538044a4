-- The season's figures, asked from C: the sheet over a run of hands at the start of lent room, and one sheet added to another.
use Rattle.std.specs.Prelude.{List, ℕ}
use Rattle.sheets.specs.Adding.{add_asked}
use Rattle.season.specs.Season.{Lent, filled, season_in}
use Rattle.crossing.specs.Crossing.{Left, left, crossed}
use Rattle.crossing.specs.Values.{value_left}
use Rattle.crossing.specs.Numbers.{flag}

-- 41, 20, 21, 22; a sheet clears the scratch
unfoldable pub season_left : ℕ → ℕ → ℕ → ℕ → Lent → Left Lent
season_left first last budget partial l = crossed (season_in l first last budget (flag partial)) l (λ words. left 0 (filled l words))

-- 47, 45, 44; the sum stands where the first sheet stood
unfoldable pub add_left : List ℕ → List ℕ → Left (List ℕ)
add_left into other = value_left (add_asked into other) into
