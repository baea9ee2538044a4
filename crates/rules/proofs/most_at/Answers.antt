-- What `most_at` leaves to be shown: the shift and the product fit.
use mathlib.Core.Path.{sym, subst}
use Prim.Native.Nat.{ℕ, ◌≤◌}
use native.Mathlib.Omega.{arith}
use lib.Dec.{lit<}
use Rattle.base.specs.Words.{listed}
use Rattle.board.specs.Record.{column_at}
use Rattle.rules.proofs.Laying.{usable_at_most, most_at_most, cells_at_most, most_word}
use native.Mathlib.Nat.{lt_of_le_of_lt}
use Rattle.rules.proofs.most_at.Goals as goal

pub overflow_add-one_more : goal.overflow_add-one_more
overflow_add-one_more c = omega (arith, c.empty_cells_at-one_more.ensures, cells_at_most c.args.cells.now)

pub overflow_shl-times : goal.overflow_shl-times
overflow_shl-times c = omega (arith, c.usable_at-times.ensures, usable_at_most (listed 8 (column_at c.args.counts.now c.args.tableau.now)) c.args.to)

pub overflow_mul-result : goal.overflow_mul-result
overflow_mul-result c = record { fits = lt_of_le_of_lt (subst (λ (n : ℕ). n ≤ 1280) (sym (most_word c.args.cells.now (listed 8 (column_at c.args.counts.now c.args.tableau.now)) c.args.to c.empty_cells_at-one_more.ensures c.usable_at-times.ensures)) (most_at_most c.args.cells.now (listed 8 (column_at c.args.counts.now c.args.tableau.now)) c.args.to)) (lit< tt) }

pub returns : goal.returns
returns c = (most_word c.args.cells.now (listed 8 (column_at c.args.counts.now c.args.tableau.now)) c.args.to c.empty_cells_at-one_more.ensures c.usable_at-times.ensures)
