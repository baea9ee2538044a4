-- What `corbelnib_cell` leaves to be shown: a card that is shown has a code.
use Rattle.questions.specs.Questions.{cell_asked}
use Rattle.crossing.proofs.Crossing.{asked_then}
use Rattle.crossing.proofs.Tops.{cells_coded}
use borrow.Author.Rules.{rules}
use Rattle.corbelnib.proofs.corbelnib_cell.Goals as goal

pub top-requires : goal.top-requires
top-requires c = cells_coded c.args.board.now c.args.cell c.and_then-answer.result (asked_then c.lent.result c.args.board.now c.lent.ensures c.and_then-answer.result c.and_then-answer.ensures (λ b. cell_asked b c.args.cell) (λ b k. search rules))
