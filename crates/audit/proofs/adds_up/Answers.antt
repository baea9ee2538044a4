-- What `adds_up` leaves to be shown: what is left of the total after the first words.
use native.Mathlib.Omega.{arith}
use Rattle.sheets.proofs.Loops.{taken_none, taken_more, taken_over}
use Rattle.audit.proofs.adds_up.Goals as goal

pub loop-word-init : goal.loop-word-init
loop-word-init c = taken_none _ _ _

pub returns-in_default : goal.returns-in_default
returns-in_default c = taken_over c.loop-word.invariant c.loop-word-test.true (omega (arith, c.in_default.ensures))

pub loop-word-preserved : goal.loop-word-preserved
loop-word-preserved c = taken_more c.loop-word.invariant c.loop-word-test.true (omega (arith, c.in-Some.ensures))
