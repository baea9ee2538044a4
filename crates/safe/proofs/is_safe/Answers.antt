-- What `is_safe` leaves to be shown: the board's refusals, then the code's.
use mathlib.Core.Path.{sym, ◌∙◌}
use Rattle.board.proofs.Soundness.{sound}
use Rattle.questions.proofs.Asking.{after_err, verdict_fine}
use Rattle.safe.specs.Asked.{safe_asked}
use Rattle.safe.proofs.Handing.{asked_no_card, asked-safe}
use borrow.Author.Rules.{rules}
use Rattle.safe.proofs.is_safe.Goals as goal

pub returns-in_err-inspect : goal.returns-in_err-inspect
unfolding safe_asked
returns-in_err-inspect c = after_err _ c.inspect.ensures c.from_residual.result c.in_err-inspect.was c.from_residual.ensures.1

pub returns-then-not-is_card : goal.returns-then-not-is_card
returns-then-not-is_card c = asked_no_card c.args.b c.args.code c.inspect.ensures c.in_ok-inspect.was c.is_card.ensures c.if-not-is_card.true

pub is_safe_at-requires : goal.is_safe_at-requires
is_safe_at-requires c =
    record { good_piles = (sound c.args.b (record { four = search rules; piles = search rules; eight = search rules; full = search rules }) (verdict_fine c.inspect.ensures c.in_ok-inspect.was)).in_piles; code_value = (sym c.is_card.ensures ∙ c.if-not-is_card.false) }

pub returns : goal.returns
returns c = asked-safe c.args.b c.args.code c.inspect.ensures c.in_ok-inspect.was c.is_card.ensures c.if-not-is_card.false c.is_safe_at.ensures
