-- What `foundation_count` leaves to be shown: the record's refusals, then the place's.
use mathlib.Core.Path.{sym, ap, ◌∙◌}
use mathlib.Core.List.{List}
use Prim.Native.Nat.{ℕ}
use native.Mathlib.Omega.{arith}
use lib.ListN.{get_or}
use Rattle.base.specs.Answer.{given}
use Rattle.questions.specs.Questions.{foundation_asked}
use Rattle.board.proofs.Soundness.{sound}
use Rattle.questions.proofs.Asking.{after_err, after_yes, verdict_fine, place_no, place_yes, shown_foundation}
use borrow.Author.Rules.{rules}
use Rattle.questions.proofs.foundation_count.Goals as goal

pub returns-in_err-inspect : goal.returns-in_err-inspect
unfolding foundation_asked
returns-in_err-inspect c = after_err _ c.inspect.ensures c.from_residual.result c.in_err-inspect.was c.from_residual.ensures.1

pub returns-then-s-gt3 : goal.returns-then-s-gt3
unfolding foundation_asked
returns-then-s-gt3 c =
    sym (after_yes _ c.inspect.ensures c.in_ok-inspect.was ∙ place_no c.args.s 4 _ c.if-s-gt3.true)

pub foundation_at-requires : goal.foundation_at-requires
foundation_at-requires c =
    record { good_piles = (sound c.args.b (record { four = search rules; piles = search rules; eight = search rules; full = search rules }) (verdict_fine c.inspect.ensures c.in_ok-inspect.was)).in_piles; s_bound = omega arith }

pub returns : goal.returns
unfolding foundation_asked
returns c =
    ap (λ (n : ℕ). given n) c.foundation_at.ensures ∙ ap (λ (l : List ℕ). given (get_or l c.args.s 0)) (shown_foundation c.args.b)
    ∙ sym (after_yes _ c.inspect.ensures c.in_ok-inspect.was ∙ place_yes c.args.s 4 _ (omega arith))
