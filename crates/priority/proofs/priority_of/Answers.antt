-- What `priority_of` leaves to be shown: the board's refusals, then the move's.
use mathlib.Core.Path.{sym, ◌∙◌}
use Rattle.board.proofs.Soundness.{sound}
use Rattle.questions.proofs.Asking.{after_err, after_yes, verdict_fine}
use Rattle.priority.specs.Asked.{priority_asked}
use borrow.Author.Rules.{rules}
use Rattle.priority.proofs.priority_of.Goals as goal

pub returns-in_err-inspect : goal.returns-in_err-inspect
unfolding priority_asked
returns-in_err-inspect c = after_err _ c.inspect.ensures c.from_residual.result c.in_err-inspect.was c.from_residual.ensures.1

pub priority_at-requires : goal.priority_at-requires
priority_at-requires c = sound c.args.b (record { four = search rules; piles = search rules; eight = search rules; full = search rules }) (verdict_fine c.inspect.ensures c.in_ok-inspect.was)

pub returns : goal.returns
unfolding priority_asked
returns c = c.priority_at.ensures ∙ sym (after_yes _ c.inspect.ensures c.in_ok-inspect.was)
