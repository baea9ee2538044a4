-- What `blocked_in` leaves to be shown: what is counted, and what the cards ahead still add.
use Prim.Native.Nat.{◌+◌, ◌-◌, ◌/◌}
use lib.Dec.{leb}
use lib.ListN.{length, get_or}
use native.Mathlib.Omega.{arith}
use Rattle.features.proofs.Blocking.{by_most, blocked_step, blocked_end}
use Rattle.features.proofs.blocked_in.Goals as goal

pub loop-k-preserved : goal.loop-k-preserved
loop-k-preserved c =
    let m = by_most (leb (get_or c.args.column.now c.loop-k.k 0 / 16) 3) (length c.args.column.now - (c.loop-k.k + 1)) in
    (omega (arith, c.blocked_by-n.ensures), omega (arith, c.blocked_by-n.ensures, blocked_step c.args.column.now c.loop-k.k c.loop-k-test.true))

pub returns : goal.returns
returns c = omega (arith, c.loop-k.invariant.1, blocked_end c.args.column.now c.loop-k.k c.loop-k-test.false)
