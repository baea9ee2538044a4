-- What `corbelnib_scores` leaves to be shown: another length, or both scores of one board.
use mathlib.Core.Path.{ap, ◌∙◌}
use Prim.Native.Nat.{ℕ}
use lib.IntN.{ℤ}
use Rattle.base.specs.Answer.{Answer}
use Rattle.score.specs.Asked.{features_asked, heuristic_asked, progress_asked}
use Rattle.score.specs.Scores.{heuristic, progress}
use Rattle.crossing.specs.Crossing.{left, crossed}
use Rattle.crossing.specs.Values.{value_left, scores_left}
use Rattle.crossing.proofs.Crossing.{asked_yes, asked_no}
use Rattle.crossing.proofs.Telling.{scores_left_lem}
use Rattle.corbelnib.proofs.corbelnib_scores.Goals as goal

pub returns-in-Ok : goal.returns-in-Ok
returns-in-Ok c =
    scores_left_lem c.args.board.now c.args.heuristic.now c.args.progress.now
    (c.value.ensures ∙ ap (λ (a : Answer ℤ). value_left a c.args.heuristic.now) (c.heuristic_of.ensures ∙ asked_yes c.lent.result c.args.board.now c.lent.ensures c.in-Ok.is heuristic_asked))
    (c.value-in-Ok.ensures ∙ ap (λ (a : Answer ℤ). value_left a c.args.progress.now) (c.progress_of.ensures ∙ asked_yes c.lent.result c.args.board.now c.lent.ensures c.in-Ok.is progress_asked))

pub returns-in-Err : goal.returns-in-Err
unfolding scores_left
returns-in-Err c =
    ap (λ (k : ℕ). left {A = ℤ × ℤ} k (c.args.heuristic.now, c.args.progress.now)) c.number.ensures
    ∙ ap (λ a. crossed {B = ℤ × ℤ} a (c.args.heuristic.now, c.args.progress.now) (λ f. left 0 (heuristic f, progress f)))
    (asked_no c.lent.result c.args.board.now c.lent.ensures c.in-Err.is features_asked)
