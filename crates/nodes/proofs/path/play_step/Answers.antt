-- What `play_step` leaves to be shown: the step's move is told, and the child is made of it, with no chain if one move was spent.
use native.Mathlib.Omega.{arith}
use Rattle.nodes.proofs.Walking.{step_never, step_goes, step_plays, step_alone}
use Rattle.nodes.proofs.path.play_step.Goals as goal

pub returns-in_default : goal.returns-in_default
returns-in_default c = absurd (step_never c.requires.sound c.requires.makes c.move_in.ensures c.in_default.is)

pub apply_to-requires : goal.apply_to-requires
apply_to-requires c = step_goes c.requires.sound c.requires.makes c.move_in.ensures c.in-Some.is

pub returns-then-spent-eq1 : goal.returns-then-spent-eq1
returns-then-spent-eq1 c = step_alone c.requires.sound c.requires.makes c.move_in.ensures c.in-Some.is c.requires.costs c.cost_in-cost.ensures (omega (arith, c.if-spent-eq1.true)) c.apply_to.ensures

pub child_to-requires : goal.child_to-requires
child_to-requires c = step_goes c.requires.sound c.requires.makes c.move_in.ensures c.in-Some.is

pub returns : goal.returns
returns c = step_plays c.requires.sound c.requires.makes c.move_in.ensures c.in-Some.is c.child_to.ensures.bears c.child_to.ensures.sound
