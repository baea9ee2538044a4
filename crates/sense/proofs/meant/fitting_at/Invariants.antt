-- What `fitting_at` leaves to be shown: from the longest run down, the first that fits.
use Rattle.board.specs.Record.{laid}
use Rattle.sense.proofs.Finding.{Fits}
use Rattle.sense.proofs.meant.fitting_at.Given as goal

abbrev pub invariant-loop-n : goal.invariant-loop-n
invariant-loop-n l = Fits (laid l.cells l.foundation l.counts l.tableau) l.i l.j l.n
