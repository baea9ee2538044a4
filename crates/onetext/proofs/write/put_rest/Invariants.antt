-- What `put_rest` leaves to be shown: number after number.
use Rattle.onetext.proofs.Lining.{Lining}
use Rattle.onetext.proofs.write.put_rest.Given as goal

abbrev pub invariant-loop-n : goal.invariant-loop-n
invariant-loop-n l = Lining l.initial.out l.out l.rest l.at l.to l.n-index
