-- What `run_at` leaves to be shown: the run grows by one card from below until one does not follow.
use mathlib.Core.Path.{sym, ◌∙◌}
use native.Mathlib.Omega.{arith}
use Rattle.rules.proofs.Laying.{run_first, run_grows, run_stops, run_all}
use Rattle.rules.proofs.run_at.Goals as goal

pub loop-run-init : goal.loop-run-init
loop-run-init c = run_first c.column_at-cards.result.now

pub returns-then-not-may_lie_on : goal.returns-then-not-may_lie_on
returns-then-not-may_lie_on c =
    rw (sym c.column_at-cards.ensures.value)
    (run_stops c.column_at-cards.result.now c.loop-run.run (omega arith) c.loop-run-test.true (c.loop-run.invariant (omega arith)) (sym c.may_lie_on.ensures ∙ c.if-not-may_lie_on.true))

pub loop-run-preserved : goal.loop-run-preserved
loop-run-preserved c some =
    run_grows c.column_at-cards.result.now c.loop-run.run (omega arith) c.loop-run-test.true (c.loop-run.invariant some) (sym c.may_lie_on.ensures ∙ c.if-not-may_lie_on.false)

pub returns : goal.returns
returns c =
    rw (sym c.column_at-cards.ensures.value) (run_all c.column_at-cards.result.now c.loop-run.run c.loop-run-test.false c.loop-run.invariant)
