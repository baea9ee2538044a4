-- What `write_down` leaves to be shown: the steps from a place of the path on are made and written.
use native.Mathlib.Omega.{arith}
use Rattle.nodes.proofs.Walking.{descend_makes}
use Rattle.lines.proofs.Telling.{telling_start, telling_room, telling_turn}
use Rattle.lines.proofs.write_down.Goals as goal

pub loop-left-init : goal.loop-left-init
loop-left-init c = telling_start _ c.requires.leads

pub write_step-written-requires-clause-makes : goal.write_step-written-requires-clause-makes
write_step-written-requires-clause-makes c = descend_makes c.requires.leads c.loop-left.invariant.down (omega (arith, c.loop-left-test.true))

pub write_step-written-requires-clause-step_in_bounds : goal.write_step-written-requires-clause-step_in_bounds
write_step-written-requires-clause-step_in_bounds c = telling_room c.requires.leads c.requires.path_in_bounds c.loop-left.invariant (omega (arith, c.loop-left-test.true))

pub loop-left-preserved : goal.loop-left-preserved
loop-left-preserved c = telling_turn c.requires.leads c.requires.path_in_bounds c.loop-left.invariant (omega (arith, c.loop-left-test.true)) c.write_step-written.ensures
