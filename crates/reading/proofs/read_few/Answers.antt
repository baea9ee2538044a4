-- What `read_few` leaves to be shown: what was read is copied, and a refusal writes nothing.
use Rattle.reading.proofs.Handing.{kept_into}
use Rattle.reading.proofs.read_few.Goals as goal

pub returns : goal.returns
returns c = kept_into c.records_kept-used.ensures c.read_to-read.ensures.read c.copy_from_slice.ensures.after
