-- The cards that are home: the four counts added up, no more than 52.
use mathlib.Core.List.{List}
use Prim.Native.Nat.{ℕ, ◌≤◌}
use native.Mathlib.Omega.{arith}
use mathlib.Core.Path.{◌≡◌}
use Rattle.std.specs.List.{sum_by}
use Rattle.base.specs.Words.{sum}
use Rattle.base.proofs.Lists.{sum_by-places}
use Rattle.board.specs.Inner.{GoodPiles}
use Rattle.questions.specs.Questions.{home_count}

pub home_52 : (foundation : List ℕ) → GoodPiles foundation → home_count foundation ≤ 52
unfolding home_count sum
home_52 foundation g =
    omega (arith, g.within 0 (omega arith), g.within 1 (omega arith), g.within 2 (omega arith), g.within 3 (omega arith))

-- a sum over the four counts
pub home_added : {foundation : List ℕ} → GoodPiles foundation → sum_by (λ n. n) foundation ≡ home_count foundation
unfolding home_count
home_added {foundation} g = sum_by-places (λ n. n) foundation g.four
