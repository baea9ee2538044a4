-- What the words of the demands say of SCOPE.md's numbers, evaluated.
use mathlib.Core.Path.{◌≡◌, refl}
use mathlib.Core.Bool.{Bool, true, false}
use Rattle.search.specs.Game.{Game}
use Rattle.search.specs.Solve.{State, exhausted, brings, best_exhausted, best_said, when_exhausted, progressed, answer}
use Rattle.demands.specs.Demand3.{is_won, is_exhausted, is_best_progress}

-- a run that ends exhausted is answered by a number that is called so, with a list or without; and so on
module _ (G : Game) (s : State G) where
  by_list : (with : Bool) → is_exhausted (progressed G with best_exhausted when_exhausted s).number ≡ true
  by_list true = refl
  by_list false = refl

  pub exhausted_called : (partial : Bool) → is_exhausted (answer G partial (exhausted s)).number ≡ true
  exhausted_called partial = by_list (brings G partial s)

-- a best line at the limit is called best progress, and not won, whether it finishes or not
pub limit_called : (finishes : Bool) → is_best_progress (best_said finishes) ≡ true
limit_called true = refl
limit_called false = refl

pub limit_not_won : (finishes : Bool) → is_won (best_said finishes) ≡ false
limit_not_won true = refl
limit_not_won false = refl
