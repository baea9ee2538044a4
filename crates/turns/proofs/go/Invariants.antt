-- What `go` leaves to be shown: turn after turn, until something ends the run.
use Rattle.turns.proofs.Going.{Going}
use Rattle.memory.specs.Memory.{lent}
use Rattle.turns.proofs.go.Given as goal

abbrev pub invariant-loop : goal.invariant-loop
invariant-loop l = Going l.root l.room l.budget (lent l.initial.nodes l.initial.heap l.initial.keys l.initial.costs) l.initial.counts (lent l.nodes l.heap l.keys l.costs) l.counts l.counter
