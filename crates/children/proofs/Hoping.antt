-- The features of a well-formed board are bounded, and its heuristic has room in a key.
use mathlib.Core.Path.{◌≡◌, sym, ap, ◌∙◌, subst}
use Prim.Native.Nat.{ℕ, ◌<◌}
use native.Mathlib.Omega.{arith}
use Rattle.board.specs.Record.{shown}
use Rattle.board.specs.Inner.{Sound}
use Rattle.board.specs.declared.Board.{Board}
use Rattle.board.proofs.Fair.{shows_fair}
use Rattle.features.specs.Features.{Bounded, features_of}
use Rattle.score.specs.Scores.{heuristic_key}
use Rattle.features.specs.declared.Features.{Features}
use Rattle.features.proofs.Bounds.{bounded}
use Rattle.memory.proofs.Children.{hope_small}

module _ {b : Board} (s : Sound b) {f : Features} (e : f ≡ features_of (shown b)) where
  pub board_bounded : Bounded f
  board_bounded = subst Bounded (sym e) (bounded b s)

  module _ {hope : ℕ} (q : hope ≡ heuristic_key f) where
    pub hope_is : hope ≡ heuristic_key (features_of (shown b))
    hope_is = q ∙ ap heuristic_key e

    pub hope_fits : hope < 32768
    hope_fits = let h = hope_small (shown b) (shows_fair s) in let k = hope_is in omega arith
