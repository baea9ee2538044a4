-- What `immediate_foundation_count` leaves to be shown: columns and cells together, at most four.
use native.Mathlib.Omega.{arith}
use Rattle.features.proofs.Bounds.{immediate_is, immediate_most}
use Rattle.board.specs.Record.{laid}
use Rattle.features.proofs.immediate_foundation_count.Goals as goal

pub overflow_add-result : goal.overflow_add-result
overflow_add-result c = omega (arith, immediate_is (laid c.args.cells.now c.args.foundation.now c.args.counts.now c.args.tableau.now) c.columns_home-from_columns.ensures c.cells_home-from_cells.ensures, immediate_most (laid c.args.cells.now c.args.foundation.now c.args.counts.now c.args.tableau.now) c.requires)

pub returns : goal.returns
returns c = immediate_is (laid c.args.cells.now c.args.foundation.now c.args.counts.now c.args.tableau.now) c.columns_home-from_columns.ensures c.cells_home-from_cells.ensures
