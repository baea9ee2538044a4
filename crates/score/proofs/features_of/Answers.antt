-- What `features_of` leaves to be shown: the record's refusals, then its features.
use mathlib.Core.Path.{sym, ap, ◌∙◌}
use Rattle.base.specs.Answer.{given}
use Rattle.board.proofs.Soundness.{sound}
use Rattle.questions.proofs.Asking.{after_err, after_yes, verdict_fine}
use Rattle.score.specs.Asked.{features_asked}
use Rattle.features.specs.declared.Features.{Features}
use borrow.Author.Rules.{rules}
use Rattle.score.proofs.features_of.Goals as goal

pub returns-in_err-inspect : goal.returns-in_err-inspect
unfolding features_asked
returns-in_err-inspect c = after_err _ c.inspect.ensures c.from_residual.result c.in_err-inspect.was c.from_residual.ensures.1

pub compute_features-f-requires : goal.compute_features-f-requires
compute_features-f-requires c = sound c.args.b (record { four = search rules; piles = search rules; eight = search rules; full = search rules }) (verdict_fine c.inspect.ensures c.in_ok-inspect.was)

pub returns : goal.returns
unfolding features_asked
returns c = ap (λ (f : Features). given f) c.compute_features-f.ensures ∙ sym (after_yes _ c.inspect.ensures c.in_ok-inspect.was)
