-- What `corbelnib_candidates` leaves to be shown: another length, or the candidates.
use mathlib.Core.Path.{ap, ◌∙◌}
use Prim.Native.Nat.{ℕ}
use mathlib.Core.List.{List}
use Rattle.base.specs.Answer.{Answer, given}
use Rattle.board.specs.Verdict.{after}
use Rattle.board.specs.Record.{examined, shown}
use Rattle.moves.specs.declared.Move.{Move}
use Rattle.candidates.specs.Candidates.{candidates}
use Rattle.crossing.specs.Crossing.{left}
use Rattle.crossing.specs.Lists.{list_left, candidates_left}
use Rattle.crossing.proofs.Crossing.{asked_yes, asked_no}
use Rattle.crossing.proofs.Listing.{list_left_lem}
use Rattle.corbelnib.proofs.corbelnib_candidates.Goals as goal

pub returns-in-Ok : goal.returns-in-Ok
unfolding candidates_left
returns-in-Ok c = list_left_lem c.args.count.now c.value.ensures c.candidates_of.ensures ∙ ap (λ (a : Answer (List Move)). list_left a c.args.records.now c.args.count.now) (asked_yes c.lent.result c.args.board.now c.lent.ensures c.in-Ok.is (λ b. after (examined b) (given (candidates (shown b)))))

pub returns-in-Err : goal.returns-in-Err
unfolding candidates_left list_left
returns-in-Err c = ap (λ (k : ℕ). left {A = List ℕ × ℕ} k (c.args.records.now, c.args.count.now)) c.number.ensures ∙ ap (λ (a : Answer (List Move)). list_left a c.args.records.now c.args.count.now) (asked_no c.lent.result c.args.board.now c.lent.ensures c.in-Err.is (λ b. after (examined b) (given (candidates (shown b)))))
