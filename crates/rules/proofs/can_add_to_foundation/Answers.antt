-- What `can_add_to_foundation` leaves to be shown: the board's refusals, then the place's and the code's.
use mathlib.Core.Path.{sym, ap, ◌∙◌}
use mathlib.Core.Bool.{Bool}
use mathlib.Core.List.{List}
use Prim.Native.Nat.{ℕ}
use Rattle.base.specs.Answer.{given}
use Rattle.questions.proofs.Asking.{after_err, after_yes, verdict_fine, shown_foundation}
use Rattle.board.proofs.Soundness.{sound}
use Rattle.rules.specs.Fit.{home_takes}
use Rattle.rules.specs.Asked.{takes_asked}
use borrow.Author.Rules.{rules}
use Rattle.rules.proofs.can_add_to_foundation.Goals as goal

pub returns-in_err-inspect : goal.returns-in_err-inspect
unfolding takes_asked
returns-in_err-inspect c = after_err _ c.inspect.ensures c.from_residual.result c.in_err-inspect.was c.from_residual.ensures.1

pub returns-then-not-is_card : goal.returns-then-not-is_card
unfolding takes_asked
returns-then-not-is_card c =
    sym ((after_yes _ c.inspect.ensures c.in_ok-inspect.was) ∙ rw (sym c.is_card.ensures ∙ c.if-not-is_card.true))

pub home_takes-requires : goal.home_takes-requires
home_takes-requires c =
    record { good_piles = (sound c.args.b (record { four = search rules; piles = search rules; eight = search rules; full = search rules }) (verdict_fine c.inspect.ensures c.in_ok-inspect.was)).in_piles; code_value = (sym c.is_card.ensures ∙ c.if-not-is_card.false) }

pub returns : goal.returns
unfolding takes_asked
returns c =
    ap (λ (t : Bool). given t) c.home_takes.ensures ∙ ap (λ (l : List ℕ). given (home_takes l c.args.code)) (shown_foundation c.args.b)
    ∙ sym ((after_yes _ c.inspect.ensures c.in_ok-inspect.was) ∙ rw (sym c.is_card.ensures ∙ c.if-not-is_card.false))
