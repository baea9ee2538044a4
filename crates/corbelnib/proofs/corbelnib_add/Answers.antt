-- What `corbelnib_add` leaves to be shown: what `add` says and leaves.
use Rattle.corbelnib.proofs.Seasoning.{add_left_lem}
use Rattle.corbelnib.proofs.corbelnib_add.Goals as goal

pub returns : goal.returns
returns c = add_left_lem c.add.ensures c.verdict.ensures
