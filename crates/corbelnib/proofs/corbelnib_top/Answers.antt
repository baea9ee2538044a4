-- What `corbelnib_top` leaves to be shown: a card that is shown has a code.
use Rattle.questions.specs.Questions.{top_asked}
use Rattle.crossing.proofs.Crossing.{asked_then}
use Rattle.crossing.proofs.Tops.{tops_coded}
use borrow.Author.Rules.{rules}
use Rattle.corbelnib.proofs.corbelnib_top.Goals as goal

pub top-requires : goal.top-requires
top-requires c = tops_coded c.args.board.now c.args.column c.and_then-answer.result (asked_then c.lent.result c.args.board.now c.lent.ensures c.and_then-answer.result c.and_then-answer.ensures (λ b. top_asked b c.args.column) (λ b k. search rules))
