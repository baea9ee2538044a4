-- What `is_win` leaves to be shown: the record's refusals, then the place's.
use mathlib.Core.Path.{sym, ap, ◌∙◌}
use mathlib.Core.Bool.{Bool}
use mathlib.Core.List.{List}
use Prim.Native.Nat.{ℕ}
use Rattle.base.specs.Answer.{given}
use Rattle.questions.specs.Questions.{won_on, won_asked}
use Rattle.board.proofs.Soundness.{sound}
use Rattle.questions.proofs.Asking.{after_err, after_yes, verdict_fine, shown_foundation}
use borrow.Author.Rules.{rules}
use Rattle.questions.proofs.is_win.Goals as goal

pub returns-in_err-inspect : goal.returns-in_err-inspect
unfolding won_asked
returns-in_err-inspect c = after_err _ c.inspect.ensures c.from_residual.result c.in_err-inspect.was c.from_residual.ensures.1

pub won_at-requires : goal.won_at-requires
won_at-requires c =
    (sound c.args.b (record { four = search rules; piles = search rules; eight = search rules; full = search rules }) (verdict_fine c.inspect.ensures c.in_ok-inspect.was)).in_piles

pub returns : goal.returns
unfolding won_asked
returns c =
    ap (λ (t : Bool). given t) c.won_at.ensures ∙ ap (λ (l : List ℕ). given (won_on l)) (shown_foundation c.args.b) ∙ sym (after_yes _ c.inspect.ensures c.in_ok-inspect.was)
