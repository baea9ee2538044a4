-- What `card_at` leaves to be shown: kind by kind, the last card where it takes from.
use native.Mathlib.Omega.{arith}
use Rattle.play.proofs.Tops.{top_column, top_cell, top_home}
use Rattle.generators.proofs.card_at.Goals as goal

pub returns-in-ColumnToColumn : goal.returns-in-ColumnToColumn
returns-in-ColumnToColumn c = top_column c.requires.sound c.args.i (grind arith) (grind arith) c.top_at.ensures

pub returns-in-CellToColumn : goal.returns-in-CellToColumn
returns-in-CellToColumn c = top_cell c.requires.sound c.args.i (grind arith) c.cell_at.ensures

pub returns-in-HomeToColumn : goal.returns-in-HomeToColumn
returns-in-HomeToColumn c = top_home c.requires.sound c.args.i (grind arith) c.home_at.ensures
