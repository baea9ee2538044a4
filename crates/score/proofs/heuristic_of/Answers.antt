-- What `heuristic_of` leaves to be shown: the features told decide.
use mathlib.Core.Path.{ap, ◌∙◌}
use lib.IntN.{ℤ}
use Rattle.base.specs.Answer.{given}
use Rattle.score.specs.Scores.{heuristic}
use Rattle.score.specs.Asked.{heuristic_asked}
use Rattle.score.proofs.Answering.{told_no, told_given, told_small}
use Rattle.score.proofs.Signs.{passed_on, heuristic_fits}
use borrow.Author.Rules.{rules}
use Rattle.score.proofs.heuristic_of.Goals as goal

pub heuristic_cost-requires : goal.heuristic_cost-requires
heuristic_cost-requires c = told_small c.args.b c.features_of.ensures c.in-Ok.is (record { four = search rules; piles = search rules; eight = search rules; full = search rules })

pub returns-in-Ok : goal.returns-in-Ok
unfolding heuristic_asked
returns-in-Ok c = ap (λ (z : ℤ). given z) (passed_on (heuristic_fits c.in-Ok.f (told_small c.args.b c.features_of.ensures c.in-Ok.is (record { four = search rules; piles = search rules; eight = search rules; full = search rules }))) c.heuristic_cost.ensures) ∙ told_given c.args.b c.features_of.ensures c.in-Ok.is (λ f. given (heuristic f))

pub returns-in-Err : goal.returns-in-Err
unfolding heuristic_asked
returns-in-Err c = told_no c.args.b c.features_of.ensures _ c.in-Err.is
