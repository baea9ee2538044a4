-- What `runs_from` leaves to be shown: column after column.
use native.Mathlib.Omega.{arith}
use Rattle.generate.specs.Found.{found_from}
use Rattle.generate.proofs.Writing.{walk_start, walk_room, walk_on, walk_end}
use Rattle.run_moves.proofs.runs_from.Goals as goal

pub loop-j-init : goal.loop-j-init
loop-j-init c = walk_start _ _ _ _

pub runs_between-made-requires-clause-j_in_bounds : goal.runs_between-made-requires-clause-j_in_bounds
unfolding found_from
runs_between-made-requires-clause-j_in_bounds c = walk_room c.requires.i_in_bounds c.loop-j.invariant (omega (arith, c.loop-j-test.true))

pub loop-j-preserved : goal.loop-j-preserved
unfolding found_from
loop-j-preserved c =
    walk_on c.requires.i_in_bounds c.loop-j.invariant (omega (arith, c.loop-j-test.true)) c.runs_between-made.ensures

pub returns : goal.returns
unfolding found_from
returns c =
    walk_end c.requires.i_in_bounds c.loop-j.invariant (omega (arith, c.loop-j-test.false))
