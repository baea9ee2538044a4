-- What `column_at` leaves to be shown: the part is the column.
use Rattle.board.proofs.Soundness.{column_part}
use Rattle.questions.proofs.column_at.Goals as goal

pub returns-clause-value : goal.returns-clause-value
returns-clause-value c = column_part c.args.counts.now c.args.tableau.now c.args.i c.from.ensures
