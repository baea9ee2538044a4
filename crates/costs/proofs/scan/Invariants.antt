-- What `scan` leaves to be shown: one entry more, or the end of the scan.
use Rattle.costs.specs.Promises.{Passed}
use Rattle.costs.proofs.scan.Given as goal

abbrev pub invariant-loop-i : goal.invariant-loop-i
invariant-loop-i l = Passed l.keys l.costs l.from l.i l.k
