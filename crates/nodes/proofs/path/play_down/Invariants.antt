-- What `play_down` leaves to be shown: the steps from a place of the path on were made, and their moves counted.
use Rattle.nodes.proofs.Walking.{Replaying}
use Rattle.board.specs.Record.{laid}
use Rattle.nodes.proofs.path.play_down.Given as goal

abbrev pub invariant-loop-left : goal.invariant-loop-left
invariant-loop-left l = Replaying (laid l.initial.cells l.initial.foundation l.initial.counts l.initial.tableau) l.path l.deep (laid l.cells l.foundation l.counts l.tableau) l.cost l.left
