-- What `mark_columns` leaves to be shown: a loop over the eight parts.
use Prim.Native.Nat.{◌-◌}
use Rattle.board.proofs.Marks.{Passed}
use Rattle.board.specs.Inner.{part_at}
use Rattle.board.proofs.mask.mark_columns.Given as goal

abbrev pub invariant-loop-i : goal.invariant-loop-i
invariant-loop-i l = Passed l.seen (part_at l.starts l.counts l.codes) 8 l.cards l.i
