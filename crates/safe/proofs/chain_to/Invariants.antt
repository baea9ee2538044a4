-- What `chain_to` leaves to be shown: the moves made, then what is left of the chain.
use Prim.Native.Nat.{◌-◌}
use Rattle.safe.proofs.Handing.{Chaining}
use Rattle.board.specs.Record.{laid}
use Rattle.safe.proofs.chain_to.Given as goal

abbrev pub invariant-loop-moves : goal.invariant-loop-moves
invariant-loop-moves l = Chaining (laid l.initial.cells l.initial.foundation l.initial.counts l.initial.tableau) (laid l.cells l.foundation l.counts l.tableau) l.moves
