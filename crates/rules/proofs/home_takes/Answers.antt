-- What `home_takes` leaves to be shown: the next card of the suit.
use mathlib.Core.Path.{ap}
use Prim.Native.Nat.{ℕ, ◌+◌, ◌/◌}
use native.Mathlib.Omega.{arith}
use lib.Dec.{eqb}
use lib.ListN.{get_or}
use Rattle.card.proofs.Codes.{card_is}
use Rattle.rules.specs.Fit.{home_takes}
use Rattle.rules.proofs.home_takes.Goals as goal

pub bounds-foundation-from : goal.bounds-foundation-from
bounds-foundation-from c = omega (arith, c.from.ensures, (card_is c.args.code c.requires.code_value).suit)

pub returns : goal.returns
unfolding home_takes
returns c = ap (λ (s : ℕ). eqb (c.args.code / 16) (get_or c.args.foundation.now s 0 + 1)) c.from.ensures
