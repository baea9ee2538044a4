-- What `apply_record` leaves to be shown: the board's refusals, then the move's.
use mathlib.Core.Path.{sym, ◌∙◌}
use borrow.Author.Rules.{rules}
use Rattle.replay.specs.Step.{move_made}
use Rattle.board.proofs.Soundness.{sound}
use Rattle.questions.proofs.Asking.{after_err, after_yes, verdict_fine}
use Rattle.replay.proofs.apply_record.Goals as goal

pub returns-in_err-inspect : goal.returns-in_err-inspect
unfolding move_made
returns-in_err-inspect c = after_err _ c.inspect.ensures c.from_residual.result c.in_err-inspect.was c.from_residual.ensures.1

pub apply_record_at-requires : goal.apply_record_at-requires
apply_record_at-requires c =
    sound c.args.b (record { four = search rules; piles = search rules; eight = search rules; full = search rules }) (verdict_fine c.inspect.ensures c.in_ok-inspect.was)

pub returns : goal.returns
unfolding move_made
returns c = c.apply_record_at.ensures ∙ sym (after_yes _ c.inspect.ensures c.in_ok-inspect.was)
