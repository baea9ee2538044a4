-- What `corbelnib_chain` leaves to be shown: the chain ends where a line ends that no move stops.
use mathlib.Core.Path.{ap, ◌∙◌}
use Rattle.base.specs.Answer.{Answer}
use Rattle.replay.specs.Line.{Ending}
use Rattle.safe.specs.Asked.{chain_asked}
use Rattle.crossing.specs.Boards.{line_left, chain_left}
use Rattle.crossing.proofs.Crossing.{asked_then}
use Rattle.crossing.proofs.Handing.{chain_ended}
use borrow.Author.Rules.{rules}
use Rattle.corbelnib.proofs.corbelnib_chain.Goals as goal

pub returns : goal.returns
unfolding chain_left
returns c = c.line.ensures ∙ ap (λ (a : Answer Ending). line_left a c.args.after.now c.args.moves.now) (chain_ended c.args.board.now c.and_then-chain.result c.map.result (asked_then c.lent.result c.args.board.now c.lent.ensures c.and_then-chain.result c.and_then-chain.ensures chain_asked (λ b k. search rules)) (λ x q. search rules) (λ why q. search rules))
