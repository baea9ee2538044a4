-- What `corbelnib_safe` leaves to be shown: a safe move has a record.
use Rattle.safe.specs.Asked.{first_asked}
use Rattle.crossing.proofs.Crossing.{asked_then}
use Rattle.crossing.proofs.Tops.{firsts_said}
use borrow.Author.Rules.{rules}
use Rattle.corbelnib.proofs.corbelnib_safe.Goals as goal

pub safe_move-requires : goal.safe_move-requires
safe_move-requires c = firsts_said c.args.board.now c.and_then-answer.result (asked_then c.lent.result c.args.board.now c.lent.ensures c.and_then-answer.result c.and_then-answer.ensures first_asked (λ b k. search rules))
