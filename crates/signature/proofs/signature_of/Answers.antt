-- What `signature_of` leaves to be shown: the record's refusals first.
use Rattle.std.proofs.Common.{ℕ, sym, ap, ◌∙◌, rules}
use Rattle.base.specs.Answer.{given}
use Rattle.board.proofs.Soundness.{sound}
use Rattle.questions.proofs.Asking.{after_err, after_yes, verdict_fine}
use Rattle.signature.specs.Signed.{signature_asked}
use Rattle.signature.proofs.signature_of.Goals as goal

pub returns-in_err-inspect : goal.returns-in_err-inspect
unfolding signature_asked
returns-in_err-inspect c = after_err _ c.inspect.ensures c.from_residual.result c.in_err-inspect.was c.from_residual.ensures.1

pub signature_at-requires : goal.signature_at-requires
signature_at-requires c =
    sound c.args.b (record { four = search rules; piles = search rules; eight = search rules; full = search rules })
    (verdict_fine c.inspect.ensures c.in_ok-inspect.was)

pub returns : goal.returns
unfolding signature_asked
returns c =
    ap (λ (n : ℕ). given n) c.signature_at.ensures ∙ sym (after_yes _ c.inspect.ensures c.in_ok-inspect.was)
