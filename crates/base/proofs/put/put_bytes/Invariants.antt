-- What `put_bytes` keeps: the first k bytes are put.
use Rattle.base.proofs.Putting.{Copied}
use Rattle.base.proofs.put.put_bytes.Given as goal

abbrev pub invariant-loop-k : goal.invariant-loop-k
invariant-loop-k l = Copied l.initial.out l.out l.s l.at l.k
