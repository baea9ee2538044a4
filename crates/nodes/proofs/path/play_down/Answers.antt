-- What `play_down` leaves to be shown: the steps from a place of the path on were made, and their moves counted.
use native.Mathlib.Omega.{arith}
use Rattle.nodes.proofs.Walking.{descend_makes, descend_end, replay_start, replay_costs, replay_turn}
use Rattle.nodes.proofs.path.play_down.Goals as goal

pub loop-left-init : goal.loop-left-init
loop-left-init c = replay_start c.requires

pub play_step-requires-clause-costs : goal.play_step-requires-clause-costs
play_step-requires-clause-costs c = replay_costs c.requires c.loop-left.invariant (omega (arith, c.loop-left-test.true))

pub play_step-requires-clause-makes : goal.play_step-requires-clause-makes
play_step-requires-clause-makes c = descend_makes c.requires c.loop-left.invariant.down (omega (arith, c.loop-left-test.true))

pub loop-left-preserved : goal.loop-left-preserved
loop-left-preserved c = replay_turn c.requires c.loop-left.invariant (omega (arith, c.loop-left-test.true)) c.play_step.ensures c.cost_in-cost.ensures

pub returns-clause-value : goal.returns-clause-value
returns-clause-value c = descend_end c.requires c.loop-left.invariant.down (omega (arith, c.loop-left-test.false))
