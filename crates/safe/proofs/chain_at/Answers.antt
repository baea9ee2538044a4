-- What `chain_at` leaves to be shown: the chain was played on the record's arrays.
use Rattle.safe.proofs.Handing.{chain_played}
use Rattle.safe.proofs.chain_at.Goals as goal

pub returns : goal.returns
returns c = record { value = chain_played c.chain_to-moves.ensures; sound = c.chain_to-moves.ensures.sound }
