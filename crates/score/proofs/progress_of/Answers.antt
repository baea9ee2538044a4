-- What `progress_of` leaves to be shown: the features told decide.
use mathlib.Core.Path.{ap, ◌∙◌}
use lib.IntN.{ℤ}
use Rattle.base.specs.Answer.{given}
use Rattle.score.specs.Scores.{progress}
use Rattle.score.specs.Asked.{progress_asked}
use Rattle.score.proofs.Answering.{told_no, told_given, told_small}
use Rattle.score.proofs.Signs.{passed_on, progress_fits}
use borrow.Author.Rules.{rules}
use Rattle.score.proofs.progress_of.Goals as goal

pub progress_score-requires : goal.progress_score-requires
progress_score-requires c = told_small c.args.b c.features_of.ensures c.in-Ok.is (record { four = search rules; piles = search rules; eight = search rules; full = search rules })

pub returns-in-Ok : goal.returns-in-Ok
unfolding progress_asked
returns-in-Ok c = ap (λ (z : ℤ). given z) (passed_on (progress_fits c.in-Ok.f (told_small c.args.b c.features_of.ensures c.in-Ok.is (record { four = search rules; piles = search rules; eight = search rules; full = search rules }))) c.progress_score.ensures) ∙ told_given c.args.b c.features_of.ensures c.in-Ok.is (λ f. given (progress f))

pub returns-in-Err : goal.returns-in-Err
unfolding progress_asked
returns-in-Err c = told_no c.args.b c.features_of.ensures _ c.in-Err.is
