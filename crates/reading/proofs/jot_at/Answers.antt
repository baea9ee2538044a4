-- What `jot_at` leaves to be shown: each sign leads on, ends the move, or is wrong.
use mathlib.Core.Path.{sym, ◌∙◌}
use Rattle.reading.proofs.Cutting.{cutting_start, cutting_on, cutting_ends, cutting_stop, cutting_end}
use Rattle.reading.proofs.jot_at.Goals as goal

pub loop-i-init : goal.loop-i-init
loop-i-init c = cutting_start _ _ c.requires

pub returns-in-Ends : goal.returns-in-Ends
returns-in-Ends c = record { told = cutting_ends c.loop-i.invariant c.loop-i-test.true (sym c.step_from.ensures ∙ c.in-Ends.is) }

pub returns-in-Wrong : goal.returns-in-Wrong
returns-in-Wrong c = record { told = cutting_stop c.loop-i.invariant c.loop-i-test.true (sym c.step_from.ensures ∙ c.in-Wrong.is) }

pub loop-i-preserved : goal.loop-i-preserved
loop-i-preserved c = cutting_on c.loop-i.invariant c.loop-i-test.true (sym c.step_from.ensures ∙ c.in-On.is)

pub returns : goal.returns
returns c = cutting_end c.loop-i.invariant c.loop-i-test.false c.last_jot.ensures
