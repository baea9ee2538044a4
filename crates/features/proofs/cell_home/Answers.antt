-- What `cell_home` leaves to be shown: the cell's card, if it has one.
use mathlib.Core.Path.{◌∙◌}
use lib.ListN.{get_or}
use borrow.Author.Tests.{eq-eqb}
use Rattle.board.proofs.Tables.{cell_is_card}
use Rattle.features.proofs.Homing.{cell_none, cell_last}
use Rattle.features.proofs.cell_home.Goals as goal

pub home_takes-requires-clause-code_value : goal.home_takes-requires-clause-code_value
home_takes-requires-clause-code_value c = cell_is_card (get_or c.args.cells.now c.args.i 0) (c.requires.good_cells.codes c.args.i c.requires.i_bound) c.if-code.true

pub returns-then-code : goal.returns-then-code
returns-then-code c = c.home_takes.ensures ∙ cell_last c.args.foundation.now (get_or c.args.cells.now c.args.i 0) c.if-code.true

pub returns-else-code : goal.returns-else-code
returns-else-code c = rw (eq-eqb _ 255 c.if-code.false) (cell_none c.args.foundation.now (get_or c.args.cells.now c.args.i 0) c.if-code.false)
