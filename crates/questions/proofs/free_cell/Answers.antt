-- What `free_cell` leaves to be shown: the record's refusals, then the place's.
use Rattle.std.specs.Prelude.{Option}
use Rattle.card.specs.declared.Card.{Card}
use mathlib.Core.Path.{sym, ap, ◌∙◌}
use mathlib.Core.List.{List}
use Prim.Native.Nat.{ℕ}
use native.Mathlib.Omega.{arith}
use lib.ListN.{get_or}
use Rattle.base.specs.Answer.{given}
use Rattle.questions.specs.Questions.{cell_of, cell_asked}
use Rattle.board.proofs.Soundness.{sound}
use Rattle.questions.proofs.Asking.{after_err, after_yes, verdict_fine, place_no, place_yes, shown_cells}
use borrow.Author.Rules.{rules}
use Rattle.questions.proofs.free_cell.Goals as goal

pub returns-in_err-inspect : goal.returns-in_err-inspect
unfolding cell_asked
returns-in_err-inspect c = after_err _ c.inspect.ensures c.from_residual.result c.in_err-inspect.was c.from_residual.ensures.1

pub returns-then-i-gt3 : goal.returns-then-i-gt3
unfolding cell_asked
returns-then-i-gt3 c =
    sym (after_yes _ c.inspect.ensures c.in_ok-inspect.was ∙ place_no c.args.i 4 _ c.if-i-gt3.true)

pub cell_at-requires : goal.cell_at-requires
cell_at-requires c =
    record { good_cells = (sound c.args.b (record { four = search rules; piles = search rules; eight = search rules; full = search rules }) (verdict_fine c.inspect.ensures c.in_ok-inspect.was)).in_cells; i_bound = omega arith }

pub returns : goal.returns
unfolding cell_asked
returns c =
    ap (λ (t : Option Card). given t) c.cell_at.ensures ∙ ap (λ (l : List ℕ). given (cell_of (get_or l c.args.i 0))) (shown_cells c.args.b)
    ∙ sym (after_yes _ c.inspect.ensures c.in_ok-inspect.was ∙ place_yes c.args.i 4 _ (omega arith))
