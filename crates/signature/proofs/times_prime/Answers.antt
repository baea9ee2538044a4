-- What `times_prime` leaves to be shown: the sums of shifts are the product.
use mathlib.Core.Path.{refl}
use Rattle.signature.proofs.Product.{shifted_sums}
use Rattle.signature.proofs.times_prime.Goals as goal

pub returns : goal.returns
returns c = shifted_sums c.args.x refl refl refl refl refl refl
