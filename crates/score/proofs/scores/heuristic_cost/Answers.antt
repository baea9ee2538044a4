-- What `heuristic_cost` leaves to be shown: both parts are small.
use mathlib.Core.Path.{ap₂, ◌∙◌}
use lib.IntN.{sub_ℕ}
use Rattle.score.specs.Scores.{heuristic}
use Rattle.score.proofs.Signs.{passed_on, heuristic_fits}
use Rattle.score.proofs.scores.heuristic_cost.Goals as goal

pub returns : goal.returns
unfolding heuristic
returns c = passed_on (heuristic_fits c.args.f c.requires) (c.signed.ensures ∙ ap₂ sub_ℕ c.heuristic_adds.ensures c.heuristic_takes.ensures)
