-- What `key_at` leaves to be shown: both boards' features are bounded.
use mathlib.Core.Path.{sym, subst}
use Rattle.board.specs.Record.{laid}
use Rattle.features.specs.Features.{Bounded}
use Rattle.features.proofs.Bounds.{bounded}
use Rattle.priority.proofs.key_at.Goals as goal

pub priority_key-requires : goal.priority_key-requires
priority_key-requires c = let b = laid c.args.cells.now c.args.foundation.now c.args.counts.now c.args.tableau.now in
    record { bounded = subst Bounded (sym c.requires.before_value) (bounded b c.requires.ready.sound); bounded_2 = c.features_after-after.ensures.bounded }
