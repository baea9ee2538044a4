-- What `corbelnib_moves` leaves to be shown: another length, or the moves of a kind.
use mathlib.Core.Path.{ap, ◌∙◌}
use Prim.Native.Nat.{ℕ}
use mathlib.Core.List.{List}
use Rattle.base.specs.Answer.{Answer}
use Rattle.board.specs.Verdict.{after}
use Rattle.board.specs.Record.{examined, shown}
use Rattle.moves.specs.declared.Move.{Move}
use Rattle.crossing.specs.Crossing.{left}
use Rattle.crossing.specs.Lists.{list_left, way_asked, found_by, moves_left}
use Rattle.crossing.specs.Papers.{with_room}
use Rattle.crossing.proofs.Crossing.{asked_yes, asked_no}
use Rattle.corbelnib.proofs.corbelnib_moves.Goals as goal

pub returns-in-Ok : goal.returns-in-Ok
unfolding moves_left
returns-in-Ok c = ap (with_room c.found.new.records) c.value.ensures ∙ c.found.ensures c.args.count.now ∙ ap (λ (a : Answer (List Move)). list_left a c.args.records.now c.args.count.now) (asked_yes c.lent.result c.args.board.now c.lent.ensures c.in-Ok.is (λ b. after (examined b) (found_by (shown b) (way_asked c.args.kind))))

pub returns-in-Err : goal.returns-in-Err
unfolding moves_left list_left
returns-in-Err c = ap (λ (k : ℕ). left {A = List ℕ × ℕ} k (c.args.records.now, c.args.count.now)) c.number.ensures ∙ ap (λ (a : Answer (List Move)). list_left a c.args.records.now c.args.count.now) (asked_no c.lent.result c.args.board.now c.lent.ensures c.in-Err.is (λ b. after (examined b) (found_by (shown b) (way_asked c.args.kind))))
