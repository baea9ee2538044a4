-- What `put_rest` leaves to be shown: number after number.
use native.Mathlib.Omega.{arith}
use Rattle.onetext.proofs.Lining.{next_room, rest_on, rest_done}
use Rattle.onetext.proofs.write.put_rest.Goals as goal

pub put-to-requires-clause-n_in_bounds : goal.put-to-requires-clause-n_in_bounds
put-to-requires-clause-n_in_bounds c = next_room c.requires c.loop-n.invariant _ (omega (arith, c.type_inv.rest c.loop-n.n-index)) c.loop-n-test.true

pub loop-n-preserved : goal.loop-n-preserved
loop-n-preserved c = rest_on c.requires c.loop-n.invariant c.from.ensures (omega (arith, c.type_inv.rest c.loop-n.n-index)) c.loop-n-test.true c.put-to.ensures

pub returns : goal.returns
returns c = rest_done c.requires c.loop-n.invariant c.loop-n-test.false c.put_bytes.ensures
