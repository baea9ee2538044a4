-- What `safe_chain` leaves to be shown: the board's refusals, then the chain.
use mathlib.Core.Path.{sym, ap, ◌∙◌}
use Rattle.base.specs.Answer.{given}
use Rattle.board.proofs.Soundness.{sound}
use Rattle.questions.proofs.Asking.{after_err, after_yes, verdict_fine}
use Rattle.safe.specs.Asked.{chain_asked}
use Rattle.safe.specs.declared.Chained.{Chained}
use borrow.Author.Rules.{rules}
use Rattle.safe.proofs.safe_chain.Goals as goal

pub returns-in_err-inspect : goal.returns-in_err-inspect
unfolding chain_asked
returns-in_err-inspect c = after_err _ c.inspect.ensures c.from_residual.result c.in_err-inspect.was c.from_residual.ensures.1

pub chain_at-requires : goal.chain_at-requires
chain_at-requires c =
    sound c.args.b (record { four = search rules; piles = search rules; eight = search rules; full = search rules }) (verdict_fine c.inspect.ensures c.in_ok-inspect.was)

pub returns : goal.returns
unfolding chain_asked
returns c = ap (λ (r : Chained). given r) c.chain_at.ensures.value ∙ sym (after_yes _ c.inspect.ensures c.in_ok-inspect.was)
