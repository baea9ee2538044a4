-- What `free_cells_used` leaves to be shown: a cell is used or empty.
use native.Mathlib.Omega.{arith}
use Rattle.features.proofs.Bounds.{used_or_empty}
use Rattle.features.proofs.free_cells_used.Goals as goal

pub overflow_sub-result : goal.overflow_sub-result
overflow_sub-result c = omega (arith, c.empty_cells_at.ensures, used_or_empty c.args.cells.now)

pub returns : goal.returns
returns c = omega (arith, c.empty_cells_at.ensures, used_or_empty c.args.cells.now)
