-- What `foundation_imbalance` leaves to be shown: the greatest and the least of four.
use mathlib.Core.Path.{refl, ap₂, ◌∙◌}
use Prim.Native.Nat.{◌-◌}
use Rattle.features.specs.Features.{imbalance_of}
use Rattle.features.proofs.Extremes.{greatest_four, least_four}
use Rattle.features.proofs.foundation_imbalance.Goals as goal

pub returns : goal.returns
unfolding imbalance_of
returns c =
    c.from.ensures
    ∙ ap₂ ◌-◌ (greatest_four c.args.foundation.now refl refl refl refl c.max.ensures c.max-2.ensures c.max-high.ensures)
    (least_four c.args.foundation.now refl refl refl refl c.min.ensures c.min-2.ensures c.min-low.ensures)
