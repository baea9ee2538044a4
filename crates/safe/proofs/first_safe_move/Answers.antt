-- What `first_safe_move` leaves to be shown: the board's refusals, then the move.
use Rattle.std.specs.Prelude.{Option}
use Rattle.moves.specs.declared.Move.{Move}
use mathlib.Core.Path.{sym, ap, ◌∙◌}
use Rattle.base.specs.Answer.{given}
use Rattle.board.proofs.Soundness.{sound}
use Rattle.questions.proofs.Asking.{after_err, after_yes, verdict_fine}
use Rattle.safe.specs.Asked.{first_asked}
use borrow.Author.Rules.{rules}
use Rattle.safe.proofs.first_safe_move.Goals as goal

pub returns-in_err-inspect : goal.returns-in_err-inspect
unfolding first_asked
returns-in_err-inspect c = after_err _ c.inspect.ensures c.from_residual.result c.in_err-inspect.was c.from_residual.ensures.1

pub first_safe_at-requires : goal.first_safe_at-requires
first_safe_at-requires c =
    sound c.args.b (record { four = search rules; piles = search rules; eight = search rules; full = search rules }) (verdict_fine c.inspect.ensures c.in_ok-inspect.was)

pub returns : goal.returns
unfolding first_asked
returns c =
    ap (λ (m : Option Move). given m) c.first_safe_at.ensures ∙ sym (after_yes _ c.inspect.ensures c.in_ok-inspect.was)
