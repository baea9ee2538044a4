-- What `bear_all` leaves to be shown: one record more is a child more.
use Rattle.children.proofs.Expanding.{Expanding}
use Rattle.memory.specs.Memory.{lent}
use Rattle.children.proofs.bear_all.Given as goal

abbrev pub invariant-loop-k : goal.invariant-loop-k
invariant-loop-k l = Expanding l.root l.room (lent l.initial.nodes l.initial.heap l.initial.keys l.initial.costs) l.initial.counts l.i l.n (lent l.nodes l.heap l.keys l.costs) l.counts l.k
