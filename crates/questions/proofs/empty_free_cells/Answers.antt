-- What `empty_free_cells` leaves to be shown: the record's refusals, then the place's.
use mathlib.Core.Path.{sym, ap, ◌∙◌}
use mathlib.Core.List.{List}
use Prim.Native.Nat.{ℕ}
use Rattle.base.specs.Answer.{given}
use Rattle.questions.specs.Questions.{empty_cells, empty_cells_asked}
use Rattle.board.proofs.Soundness.{sound}
use Rattle.questions.proofs.Asking.{after_err, after_yes, verdict_fine, shown_cells}
use borrow.Author.Rules.{rules}
use Rattle.questions.proofs.empty_free_cells.Goals as goal

pub returns-in_err-inspect : goal.returns-in_err-inspect
unfolding empty_cells_asked
returns-in_err-inspect c = after_err _ c.inspect.ensures c.from_residual.result c.in_err-inspect.was c.from_residual.ensures.1

pub empty_cells_at-requires : goal.empty_cells_at-requires
empty_cells_at-requires c =
    (sound c.args.b (record { four = search rules; piles = search rules; eight = search rules; full = search rules }) (verdict_fine c.inspect.ensures c.in_ok-inspect.was)).in_cells

pub returns : goal.returns
unfolding empty_cells_asked
returns c =
    ap (λ (n : ℕ). given n) c.empty_cells_at.ensures ∙ ap (λ (l : List ℕ). given (empty_cells l)) (shown_cells c.args.b) ∙ sym (after_yes _ c.inspect.ensures c.in_ok-inspect.was)
