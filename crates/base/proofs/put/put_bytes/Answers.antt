-- What `put_bytes` leaves to be shown: a loop that copies byte by byte.
use Rattle.base.proofs.Putting.{copy_start, copy_more, copy_end}
use Rattle.base.proofs.put.put_bytes.Goals as goal

pub loop-k-init : goal.loop-k-init
loop-k-init c = copy_start _ _ _

pub loop-k-preserved : goal.loop-k-preserved
loop-k-preserved c = copy_more c.requires c.loop-k.invariant c.loop-k-test.true

pub returns : goal.returns
returns c = copy_end c.requires c.loop-k.invariant c.loop-k-test.false
