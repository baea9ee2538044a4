-- The order of the search in SCOPE.md's own numbers: heuristic and progress score with their signs. The search compares raised
-- scores; that it comes to the same on well-formed boards is proofs/Signed.antt.
use Rattle.std.specs.Prelude.{Bool, cond, ◌&&◌, ◌||◌, ltb, ℤ, pos, ◌+ℤ◌}
use Rattle.std.specs.Int.Signed.{le_z, lt_z}
use Rattle.features.specs.Features.{features_of}
use Rattle.score.specs.Scores.{heuristic, progress}
use Rattle.search.specs.Solve.{Node, cost}
use Rattle.search.specs.Freecell.{freecell}

abbrev pub equal : ℤ → ℤ → Bool
equal x y = le_z x y && le_z y x

-- heuristic, and cost + heuristic
unfoldable pub hope_of : Node freecell → ℤ
hope_of n = heuristic (features_of n.board)

unfoldable pub sum_of : Node freecell → ℤ
sum_of n = pos (cost freecell n) +ℤ hope_of n

-- a is taken before b: the least waiting item by (cost + heuristic, heuristic, node number)
unfoldable pub before_signed : Node freecell → Node freecell → Bool
before_signed a b =
    lt_z (sum_of a) (sum_of b)
    || (equal (sum_of a) (sum_of b) && (lt_z (hope_of a) (hope_of b) || (equal (hope_of a) (hope_of b) && ltb a.number b.number)))

unfoldable pub progress_of : Node freecell → ℤ
progress_of n = progress (features_of n.board)

-- best progress moves only on a strictly higher score
unfoldable pub better_signed : Node freecell → Node freecell → Node freecell
better_signed m best = cond (lt_z (progress_of best) (progress_of m)) m best
