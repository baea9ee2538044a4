-- What `runs_into` leaves to be shown: length after length.
use Rattle.generate.proofs.Writing.{walk_start, walk_room, walk_on}
use Rattle.run_moves.proofs.runs_into.Goals as goal

pub loop-k-init : goal.loop-k-init
loop-k-init c = walk_start _ _ _ _

pub offer_run-made-requires-clause-k_in_bounds : goal.offer_run-made-requires-clause-k_in_bounds
offer_run-made-requires-clause-k_in_bounds c = walk_room c.requires.j_in_bounds c.loop-k.invariant c.loop-k-test.true

pub loop-k-preserved : goal.loop-k-preserved
loop-k-preserved c = walk_on c.requires.j_in_bounds c.loop-k.invariant c.loop-k-test.true c.offer_run-made.ensures
