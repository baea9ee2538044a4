-- What `put` leaves to be shown: the number after its label.
use lib.ListN.{length-append}
use native.Mathlib.Omega.{arith}
use Rattle.score.specs.Token.{decimal}
use Rattle.base.proofs.Putting.{puts_more}
use Rattle.score.proofs.token.put.Goals as goal

pub returns : goal.returns
returns c = puts_more (omega (arith, c.requires.n_in_bounds, length-append c.args.label.now (decimal c.args.n))) c.put_bytes-after.ensures c.put_number.ensures
