-- What `max_movable_cards` leaves to be shown: the board's refusals, then the place's.
use mathlib.Core.Path.{sym, ap, ◌∙◌}
use mathlib.Core.List.{List}
use Prim.Native.Nat.{ℕ}
use native.Mathlib.Omega.{arith}
use Rattle.base.specs.Answer.{given}
use Rattle.board.specs.Record.{shown}
use Rattle.questions.proofs.Asking.{after_err, after_yes, verdict_fine, place_no, place_yes, shown_columns, shown_cells}
use Rattle.board.proofs.Soundness.{sound}
use Rattle.rules.specs.Limit.{most_moved}
use Rattle.rules.specs.Asked.{most_asked}
use borrow.Author.Rules.{rules}
use Rattle.rules.proofs.max_movable_cards.Goals as goal

pub returns-in_err-inspect : goal.returns-in_err-inspect
unfolding most_asked
returns-in_err-inspect c = after_err _ c.inspect.ensures c.from_residual.result c.in_err-inspect.was c.from_residual.ensures.1

pub returns-then-to-gt7 : goal.returns-then-to-gt7
unfolding most_asked
returns-then-to-gt7 c =
    sym ((after_yes _ c.inspect.ensures c.in_ok-inspect.was) ∙ place_no c.args.to 8 _ c.if-to-gt7.true)

pub most_at-requires : goal.most_at-requires
most_at-requires c =
    record { good_cells = (sound c.args.b (record { four = search rules; piles = search rules; eight = search rules; full = search rules }) (verdict_fine c.inspect.ensures c.in_ok-inspect.was)).in_cells; good_columns = (sound c.args.b (record { four = search rules; piles = search rules; eight = search rules; full = search rules }) (verdict_fine c.inspect.ensures c.in_ok-inspect.was)).in_columns; to_bound = omega arith }

pub returns : goal.returns
unfolding most_asked
returns c =
    ap (λ (n : ℕ). given n) c.most_at.ensures ∙ ap (λ (l : List (List ℕ)). given (most_moved c.args.b.cells l c.args.to)) (shown_columns c.args.b) ∙ ap (λ (l : List ℕ). given (most_moved l (shown c.args.b).columns c.args.to)) (shown_cells c.args.b) ∙ sym ((after_yes _ c.inspect.ensures c.in_ok-inspect.was) ∙ place_yes c.args.to 8 _ (omega arith))
