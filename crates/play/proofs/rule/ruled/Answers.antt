-- What `ruled` leaves to be shown: passed or not.
use mathlib.Core.Path.{sym, ap}
use mathlib.Core.Bool.{Bool}
use Rattle.base.specs.Answer.{unless}
use Rattle.board.specs.Verdict.{fine}
use Rattle.board.specs.Refusal.{number_of}
use Rattle.play.proofs.rule.ruled.Goals as goal

pub returns-then-ok : goal.returns-then-ok
returns-then-ok c = sym (ap (λ (ok : Bool). unless ok (number_of c.args.why) fine) c.if-ok.true)

pub returns : goal.returns
returns c = sym (ap (λ (ok : Bool). unless ok (number_of c.args.why) fine) c.if-ok.false)
