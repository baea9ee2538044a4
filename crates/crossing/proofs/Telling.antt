-- Two scores of one board, told behind two pointers.
use mathlib.Core.Path.{◌≡◌, refl, ap₂, ◌∙◌}
use mathlib.Core.Bool.{Bool, true, false}
use mathlib.Core.List.{List}
use Prim.Native.Nat.{ℕ}
use lib.Dec.{eqb}
use lib.IntN.{ℤ}
use lib.ListN.{length}
use Rattle.base.specs.Answer.{given, refused, unless}
use Rattle.board.specs.Verdict.{Verdict, after}
use Rattle.board.specs.Record.{examined, shown}
use Rattle.score.specs.Scores.{heuristic, progress}
use Rattle.features.specs.Features.{features_of}
use Rattle.features.specs.declared.Features.{Features}
use Rattle.score.specs.Asked.{features_asked, heuristic_asked, progress_asked}
use Rattle.crossing.specs.Wire.{board_in}
use Rattle.crossing.specs.Crossing.{Left, left, crossed, asked}
use Rattle.crossing.specs.Values.{value_left, scores_left}

pub scores_left_lem : (bytes : List ℕ) (h p : ℤ) {k n : ℕ} {x y : ℤ} → left k x ≡ value_left (asked bytes heuristic_asked) h
    → left n y ≡ value_left (asked bytes progress_asked) p → left {A = ℤ × ℤ} n (x, y) ≡ scores_left bytes h p
unfolding scores_left heuristic_asked progress_asked features_asked
scores_left_lem bytes h p s t =
    ap₂ (λ (l m : Left ℤ). left {A = ℤ × ℤ} m.number (l.places, m.places)) s t
    ∙ by (eqb (length bytes) 432) (examined (board_in bytes)) (features_of (shown (board_in bytes)))
  where
    by : (ok : Bool) (v : Verdict) (f : Features)
        → left {A = ℤ × ℤ} (value_left (unless ok 12 (after v (given (progress f)))) p).number
        ((value_left (unless ok 12 (after v (given (heuristic f)))) h).places, (value_left (unless ok 12 (after v (given (progress f)))) p).places)
        ≡ crossed (unless ok 12 (after v (given f))) (h, p) (λ f. left {A = ℤ × ℤ} 0 (heuristic f, progress f))
    by true (given u) f = refl
    by true (refused m) f = refl
    by false v f = refl
