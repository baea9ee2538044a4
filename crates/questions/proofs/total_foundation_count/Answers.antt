-- What `total_foundation_count` leaves to be shown: the record's refusals, then the place's.
use mathlib.Core.Path.{sym, ap, ◌∙◌}
use mathlib.Core.List.{List}
use Prim.Native.Nat.{ℕ}
use Rattle.base.specs.Answer.{given}
use Rattle.questions.specs.Questions.{home_count, home_asked}
use Rattle.board.proofs.Soundness.{sound}
use Rattle.questions.proofs.Asking.{after_err, after_yes, verdict_fine, shown_foundation}
use borrow.Author.Rules.{rules}
use Rattle.questions.proofs.total_foundation_count.Goals as goal

pub returns-in_err-inspect : goal.returns-in_err-inspect
unfolding home_asked
returns-in_err-inspect c = after_err _ c.inspect.ensures c.from_residual.result c.in_err-inspect.was c.from_residual.ensures.1

pub total_at-requires : goal.total_at-requires
total_at-requires c =
    (sound c.args.b (record { four = search rules; piles = search rules; eight = search rules; full = search rules }) (verdict_fine c.inspect.ensures c.in_ok-inspect.was)).in_piles

pub returns : goal.returns
unfolding home_asked
returns c =
    ap (λ (n : ℕ). given n) c.total_at.ensures ∙ ap (λ (l : List ℕ). given (home_count l)) (shown_foundation c.args.b) ∙ sym (after_yes _ c.inspect.ensures c.in_ok-inspect.was)
