-- What `climb` leaves to be shown: the steps passed, then those that are left.
use Rattle.nodes.proofs.Walking.{Climbing}
use Rattle.nodes.proofs.path.climb.Given as goal

abbrev pub invariant-loop-at : goal.invariant-loop-at
invariant-loop-at l = Climbing l.nodes l.n l.i l.initial.path l.path l.at l.deep

abbrev pub decreases-loop-at : goal.decreases-loop-at
decreases-loop-at l = l.at
