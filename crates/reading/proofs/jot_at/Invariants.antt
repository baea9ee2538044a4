-- What `jot_at` leaves to be shown: each sign leads on, ends the move, or is wrong.
use Rattle.reading.proofs.Cutting.{Cutting}
use Rattle.reading.proofs.jot_at.Given as goal

abbrev pub invariant-loop-i : goal.invariant-loop-i
invariant-loop-i l = Cutting l.text l.at l.due l.i
