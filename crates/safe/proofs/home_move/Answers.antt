-- What `home_move` leaves to be shown: a column's move or a cell's.
use Rattle.safe.proofs.Places.{column_home, cell_home}
use Rattle.safe.proofs.home_move.Goals as goal

pub returns-then-place-lt8 : goal.returns-then-place-lt8
returns-then-place-lt8 c = column_home c.args.place c.args.card c.if-place-lt8.true

pub returns : goal.returns
returns c = cell_home c.args.place c.args.card c.if-place-lt8.false
