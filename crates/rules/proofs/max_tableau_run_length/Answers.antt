-- What `max_tableau_run_length` leaves to be shown: the board's refusals, then the place's.
use mathlib.Core.Path.{sym, ap, ◌∙◌}
use mathlib.Core.List.{List}
use Prim.Native.Nat.{ℕ}
use native.Mathlib.Omega.{arith}
use Rattle.base.specs.Answer.{given}
use Rattle.questions.proofs.Asking.{after_err, after_yes, verdict_fine, place_no, place_yes, shown_column}
use Rattle.board.proofs.Soundness.{sound}
use Rattle.runs.specs.Run.{run_length}
use Rattle.rules.specs.Asked.{run_asked}
use borrow.Author.Rules.{rules}
use Rattle.rules.proofs.max_tableau_run_length.Goals as goal

pub returns-in_err-inspect : goal.returns-in_err-inspect
unfolding run_asked
returns-in_err-inspect c = after_err _ c.inspect.ensures c.from_residual.result c.in_err-inspect.was c.from_residual.ensures.1

pub returns-then-i-gt7 : goal.returns-then-i-gt7
unfolding run_asked
returns-then-i-gt7 c =
    sym ((after_yes _ c.inspect.ensures c.in_ok-inspect.was) ∙ place_no c.args.i 8 _ c.if-i-gt7.true)

pub run_at-requires : goal.run_at-requires
run_at-requires c =
    record { good_columns = (sound c.args.b (record { four = search rules; piles = search rules; eight = search rules; full = search rules }) (verdict_fine c.inspect.ensures c.in_ok-inspect.was)).in_columns; i_bound = omega arith }

pub returns : goal.returns
unfolding run_asked
returns c =
    ap (λ (n : ℕ). given n) c.run_at.ensures ∙ ap (λ (l : List ℕ). given (run_length l)) (shown_column c.args.b c.args.i (omega arith)) ∙ sym ((after_yes _ c.inspect.ensures c.in_ok-inspect.was) ∙ place_yes c.args.i 8 _ (omega arith))
