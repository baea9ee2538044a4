-- What `climb` leaves to be shown: the steps passed, then those that are left.
use native.Mathlib.Omega.{arith}
use Rattle.nodes.proofs.Walking.{climb_room, climb_turn, climb_end}
use Rattle.nodes.proofs.path.climb.Goals as goal

pub bounds-path-deep : goal.bounds-path-deep
bounds-path-deep c = let h = climb_room c.requires.linked c.loop-at.invariant c.requires.i_in_bounds (omega (arith, c.loop-at-test.true)) in let l = c.loop-at.invariant.long in omega arith

pub loop-at-preserved : goal.loop-at-preserved
loop-at-preserved c = climb_turn c.requires.linked c.loop-at.invariant c.requires.i_in_bounds (omega (arith, c.loop-at-test.true)) c.step_of.ensures c.parent_of-at.ensures

pub returns : goal.returns
returns c = climb_end c.requires.linked c.loop-at.invariant (omega (arith, c.loop-at-test.false))
