-- What `write_chain` leaves to be shown: the moves passed are written and played, then what is left of the chain.
use Rattle.lines.proofs.Telling.{Going}
use Rattle.lines.proofs.write_chain.Given as goal

abbrev pub invariant-loop : goal.invariant-loop
invariant-loop l = Going l.initial.board l.initial.list l.n l.board l.list l.records l.counter
