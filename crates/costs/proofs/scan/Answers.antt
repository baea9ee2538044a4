-- What `scan` leaves to be shown: a free entry ends it, and one entry more is passed.
use mathlib.Core.Path.{sym, ◌∙◌}
use Rattle.costs.proofs.Entries.{used_yes}
use Rattle.costs.proofs.Scanning.{passed_more, scans_free}
use Rattle.costs.proofs.scan.Goals as goal

pub returns-then-costs-i-eq0 : goal.returns-then-costs-i-eq0
returns-then-costs-i-eq0 c = scans_free c.loop-i.invariant c.loop-i-test.true c.if-costs-i-eq0.true

pub loop-i-preserved : goal.loop-i-preserved
loop-i-preserved c = passed_more c.loop-i.invariant (used_yes c.args.costs.now c.loop-i.i c.if-costs-i-eq0.false) (sym c.is_for.ensures ∙ c.if-is_for.false)
