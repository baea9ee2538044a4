-- What `can_add_to_tableau` leaves to be shown: the board's refusals, then the place's and the code's.
use mathlib.Core.Path.{sym, ap, ◌∙◌}
use mathlib.Core.Bool.{Bool}
use mathlib.Core.List.{List}
use Prim.Native.Nat.{ℕ}
use native.Mathlib.Omega.{arith}
use borrow.Author.Tests.{lt-ltb, le-ltb}
use Rattle.base.specs.Answer.{given}
use Rattle.card.specs.Card.{is_card}
use Rattle.base.proofs.Words.{both, first_fails, second_fails}
use Rattle.questions.proofs.Asking.{after_err, after_yes, verdict_fine, shown_column}
use Rattle.board.proofs.Soundness.{sound}
use Rattle.rules.specs.Fit.{fits_on}
use Rattle.rules.specs.Asked.{fit_asked}
use borrow.Author.Rules.{rules}
use Rattle.rules.proofs.can_add_to_tableau.Goals as goal

pub returns-in_err-inspect : goal.returns-in_err-inspect
unfolding fit_asked
returns-in_err-inspect c = after_err _ c.inspect.ensures c.from_residual.result c.in_err-inspect.was c.from_residual.ensures.1

pub returns-then-not-is_card : goal.returns-then-not-is_card
unfolding fit_asked
returns-then-not-is_card c =
    sym ((after_yes _ c.inspect.ensures c.in_ok-inspect.was) ∙ rw (first_fails (is_card c.args.code) _ (sym c.is_card.ensures ∙ c.if-not-is_card.true)))

pub returns-then-i-gt7 : goal.returns-then-i-gt7
unfolding fit_asked
returns-then-i-gt7 c =
    sym ((after_yes _ c.inspect.ensures c.in_ok-inspect.was) ∙ rw (second_fails (is_card c.args.code) _ (le-ltb c.args.i 8 c.if-i-gt7.true)))

pub fit_at-requires : goal.fit_at-requires
fit_at-requires c =
    record { good_columns = (sound c.args.b (record { four = search rules; piles = search rules; eight = search rules; full = search rules }) (verdict_fine c.inspect.ensures c.in_ok-inspect.was)).in_columns; i_bound = omega arith; code_value = (sym c.is_card.ensures ∙ c.if-not-is_card.false) }

pub returns : goal.returns
unfolding fit_asked
returns c =
    ap (λ (t : Bool). given t) c.fit_at.ensures ∙ ap (λ (l : List ℕ). given (fits_on l c.args.code)) (shown_column c.args.b c.args.i (omega arith))
    ∙ sym ((after_yes _ c.inspect.ensures c.in_ok-inspect.was) ∙ rw (both (sym c.is_card.ensures ∙ c.if-not-is_card.false) (lt-ltb c.args.i 8 (omega arith))))
