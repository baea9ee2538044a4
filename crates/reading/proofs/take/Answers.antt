-- What `take` leaves to be shown: the move that is meant has a record.
use Rattle.board.specs.Refusal.{answered}
use mathlib.Core.Path.{ap}
use Rattle.reading.proofs.Taking.{take_said}
use Rattle.reading.proofs.take.Goals as goal

pub make-requires-clause-m_value : goal.make-requires-clause-m_value
make-requires-clause-m_value c = take_said c.requires.sound _ c.args.jot c.requires.well_made c.meant_at.ensures (ap answered c.in-Ok.is)
