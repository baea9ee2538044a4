-- What `corbelnib_token` leaves to be shown: another length, or the text.
use mathlib.Core.Path.{ap, ◌∙◌}
use Prim.Native.Nat.{ℕ}
use mathlib.Core.List.{List}
use Rattle.base.specs.Answer.{Answer, given}
use Rattle.board.specs.Verdict.{after}
use Rattle.board.specs.Record.{examined, shown}
use Rattle.features.specs.Features.{features_of}
use Rattle.score.specs.Token.{token_of}
use Rattle.crossing.specs.Crossing.{left}
use Rattle.crossing.specs.Lists.{text_left, token_left}
use Rattle.crossing.proofs.Crossing.{asked_yes, asked_no}
use Rattle.crossing.proofs.Listing.{text-left}
use Rattle.corbelnib.proofs.corbelnib_token.Goals as goal

pub returns-in-Ok : goal.returns-in-Ok
unfolding token_left
returns-in-Ok c = text-left c.args.count.now c.value.ensures c.progress_token.ensures ∙ ap (λ (a : Answer (List ℕ)). text_left a c.args.text.now c.args.count.now) (asked_yes c.lent.result c.args.board.now c.lent.ensures c.in-Ok.is (λ b. after (examined b) (given (token_of (features_of (shown b))))))

pub returns-in-Err : goal.returns-in-Err
unfolding token_left text_left
returns-in-Err c = ap (λ (k : ℕ). left {A = List ℕ × ℕ} k (c.args.text.now, c.args.count.now)) c.number.ensures ∙ ap (λ (a : Answer (List ℕ)). text_left a c.args.text.now c.args.count.now) (asked_no c.lent.result c.args.board.now c.lent.ensures c.in-Err.is (λ b. after (examined b) (given (token_of (features_of (shown b))))))
