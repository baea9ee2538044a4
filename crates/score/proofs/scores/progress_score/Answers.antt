-- What `progress_score` leaves to be shown: both parts are small.
use mathlib.Core.Path.{ap₂, ◌∙◌}
use lib.IntN.{sub_ℕ}
use Rattle.score.specs.Scores.{progress}
use Rattle.score.proofs.Signs.{passed_on, progress_fits}
use Rattle.score.proofs.scores.progress_score.Goals as goal

pub returns : goal.returns
unfolding progress
returns c = passed_on (progress_fits c.args.f c.requires) (c.signed.ensures ∙ ap₂ sub_ℕ c.progress_adds.ensures c.progress_takes.ensures)
