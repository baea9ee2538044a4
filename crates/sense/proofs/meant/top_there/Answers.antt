-- What `top_there` leaves to be shown: the last card of the column or the cell that it takes from.
use mathlib.Core.Path.{◌≡◌}
use native.Mathlib.Omega.{arith}
use borrow.Author.Rules.{rules}
use Rattle.moves.specs.declared.Place.TheVariants.{Column as column, Cell as cell}
use Rattle.play.proofs.Tops.{top_column, top_cell}
use Rattle.sense.specs.Meant.{origin}
use Rattle.sense.proofs.meant.top_there.Goals as goal

pub returns-in-FromCell : goal.returns-in-FromCell
returns-in-FromCell c =
    let there : origin c.args.jot ≡ cell c.in-FromCell.cell = grind arith in
    top_cell c.requires.sound _ there c.cell_at.ensures

pub returns-in-Between : goal.returns-in-Between
returns-in-Between c =
    let there : origin c.args.jot ≡ column c.in-Between.source = grind arith in
    top_column c.requires.sound _ there (search rules) c.top_at.ensures
