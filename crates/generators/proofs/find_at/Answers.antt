-- What `find_at` leaves to be shown: place after place.
use native.Mathlib.Omega.{arith}
use Rattle.generate.specs.Found.{found}
use Rattle.generate.proofs.Writing.{walk_start, walk_room, walk_on, walk_end}
use Rattle.generators.proofs.find_at.Goals as goal

pub loop-i-init : goal.loop-i-init
loop-i-init c = walk_start _ _ _ _

pub find_from-made-requires-clause-i_in_bounds : goal.find_from-made-requires-clause-i_in_bounds
unfolding found
find_from-made-requires-clause-i_in_bounds c = walk_room c.requires.way_in_bounds c.loop-i.invariant (omega (arith, c.loop-i-test.true, c.sources-i-end.ensures))

pub loop-i-preserved : goal.loop-i-preserved
unfolding found
loop-i-preserved c =
    walk_on c.requires.way_in_bounds c.loop-i.invariant (omega (arith, c.loop-i-test.true, c.sources-i-end.ensures)) c.find_from-made.ensures

pub returns : goal.returns
unfolding found
returns c =
    walk_end c.requires.way_in_bounds c.loop-i.invariant (omega (arith, c.loop-i-test.false, c.sources-i-end.ensures))
