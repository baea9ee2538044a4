-- What `local_priority` leaves to be shown: both boards' features are bounded, and the difference fits.
use mathlib.Core.Path.{sym, ◌∙◌, subst}
use native.Mathlib.Omega.{arith}
use Rattle.board.specs.Record.{shown, laid}
use Rattle.features.specs.Features.{Bounded}
use Rattle.features.proofs.Bounds.{bounded}
use Rattle.score.proofs.Signs.{passed_on}
use Rattle.priority.proofs.Sizes.{priority_adds_most, priority-takes_most}
use Rattle.priority.proofs.After.{priority_is, priority_fits}
use Rattle.priority.proofs.local_priority.Goals as goal

pub priority_adds-requires : goal.priority_adds-requires
priority_adds-requires c = let b = laid c.args.cells.now c.args.foundation.now c.args.counts.now c.args.tableau.now in
    record { bounded = subst Bounded (sym c.compute_features-before.ensures) (bounded b c.requires.sound); bounded_2 = c.features_after-after.ensures.bounded }

pub priority_takes-requires : goal.priority_takes-requires
priority_takes-requires c = let b = laid c.args.cells.now c.args.foundation.now c.args.counts.now c.args.tableau.now in
    record { bounded = subst Bounded (sym c.compute_features-before.ensures) (bounded b c.requires.sound); bounded_2 = c.features_after-after.ensures.bounded }

pub signed-requires : goal.signed-requires
signed-requires c = let b = laid c.args.cells.now c.args.foundation.now c.args.counts.now c.args.tableau.now in
    let b = subst Bounded (sym c.compute_features-before.ensures) (bounded b c.requires.sound) in
    record { adds_bound = omega (arith, c.priority_adds.ensures, priority_adds_most c.way_of-way.result c.compute_features-before.result c.features_after-after.result b c.features_after-after.ensures.bounded); takes_bound = omega (arith, c.priority_takes.ensures, priority-takes_most c.way_of-way.result c.compute_features-before.result c.features_after-after.result b c.features_after-after.ensures.bounded) }

pub returns : goal.returns
returns c = let b = laid c.args.cells.now c.args.foundation.now c.args.counts.now c.args.tableau.now in
    passed_on (priority_fits c.requires) (c.signed.ensures ∙ priority_is (shown b) c.args.m c.way_of-way.ensures c.compute_features-before.ensures c.features_after-after.ensures.value c.priority_adds.ensures c.priority_takes.ensures)
