-- What `count_deals` leaves to be shown: the deals before i are counted.
use mathlib.Core.Path.{sym, ◌∙◌}
use Rattle.sheets.proofs.Loops.{counted_none, counted_one, counted_not, counted_end}
use Rattle.audit.proofs.count_deals.Goals as goal
use Rattle.audit.proofs.count_deals.Goals.{then-covered_at, else-covered_at}

pub loop-i-init : goal.loop-i-init
loop-i-init c = counted_none _

pub loop-i-preserved : goal.loop-i-preserved
loop-i-preserved c =
    elim c.if-covered_at.branch [
      | then-covered_at w ↦
          rw w.count-is (counted_one c.loop-i.invariant c.loop-i-test.true (sym c.covered_at.ensures ∙ w.if-covered_at.true))
      | else-covered_at w ↦
          rw w.count-is (counted_not c.loop-i.invariant c.loop-i-test.true (sym c.covered_at.ensures ∙ w.if-covered_at.false))
    ]

pub returns : goal.returns
returns c = counted_end c.loop-i.invariant c.loop-i-test.false
