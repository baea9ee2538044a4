-- What `top_at_place` leaves to be shown: a column's top or a cell's card.
use Rattle.board.specs.Record.{column_at}
use Rattle.safe.proofs.Places.{column_place, cell_place}
use Rattle.safe.proofs.top_at_place.Goals as goal

pub returns-then-place-lt8 : goal.returns-then-place-lt8
returns-then-place-lt8 c = column_place c.args.cells.now (column_at c.args.counts.now c.args.tableau.now) c.args.place c.if-place-lt8.true c.top_at.ensures

pub returns : goal.returns
returns c = cell_place c.args.cells.now (column_at c.args.counts.now c.args.tableau.now) c.args.place c.if-place-lt8.false c.cell_at.ensures
