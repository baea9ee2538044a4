-- What `replay_to` leaves to be shown: what is left to replay ends as the whole line does.
use Prim.Native.Nat.{◌*◌}
use Rattle.board.specs.Record.{laid}
use Rattle.replay.proofs.Lining.{Runs}
use Rattle.replay.proofs.replay_to.Given as goal

abbrev pub invariant-loop-moves : goal.invariant-loop-moves
invariant-loop-moves l = Runs l.bytes (laid l.initial.cells l.initial.foundation l.initial.counts l.initial.tableau) (laid l.cells l.foundation l.counts l.tableau) l.moves (l.moves * 5)
