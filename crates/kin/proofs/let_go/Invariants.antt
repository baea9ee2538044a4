-- What `let_go` leaves to be shown: each turn frees a place and goes on to its parent.
use Rattle.kin.proofs.Going.{Going}
use Rattle.kin.proofs.let_go.Given as goal

abbrev pub invariant-loop-refs : goal.invariant-loop-refs
invariant-loop-refs l = Going l.capacity l.fresh l.initial.words l.initial.slots l.living l.i l.words l.slots l.left l.at l.refs

abbrev pub decreases-loop-refs : goal.decreases-loop-refs
decreases-loop-refs l = l.left
