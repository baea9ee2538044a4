-- What `find_columns` leaves to be shown: a walk over the image's columns.
use Prim.Native.Nat.{◌-◌}
use Rattle.intake.proofs.Walking.{Walk}
use Rattle.intake.proofs.image.find_columns.Given as goal

abbrev pub invariant-loop-i : goal.invariant-loop-i
invariant-loop-i l = Walk l.image l.starts l.counts l.at l.i
