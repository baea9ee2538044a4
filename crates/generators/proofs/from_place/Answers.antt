-- What `from_place` leaves to be shown: place after place, the moves of one card.
use mathlib.Core.Path.{sym, ◌∙◌}
use native.Mathlib.Omega.{arith}
use Rattle.generate.specs.Found.{found_from}
use Rattle.moves.proofs.Writing.{adds_none}
use Rattle.generate.proofs.Writing.{walk_start, walk_room, walk_on, walk_end}
use Rattle.generate.proofs.Offering.{none_from}
use Rattle.generators.proofs.from_place.Goals as goal

pub returns-in_default : goal.returns-in_default
returns-in_default c = adds_none _ _ (none_from _ _ _ c.requires.fact c.requires.i_bound (sym c.card_at.ensures ∙ c.in_default.is))

pub loop-j-init : goal.loop-j-init
loop-j-init c = walk_start _ _ _ _

pub offer-made-requires-clause-j_in_bounds : goal.offer-made-requires-clause-j_in_bounds
unfolding found_from
offer-made-requires-clause-j_in_bounds c = walk_room c.requires.i_in_bounds c.loop-j.invariant (omega (arith, c.loop-j-test.true, c.targets-j-end.ensures))

pub loop-j-preserved : goal.loop-j-preserved
unfolding found_from
loop-j-preserved c =
    walk_on c.requires.i_in_bounds c.loop-j.invariant (omega (arith, c.loop-j-test.true, c.targets-j-end.ensures)) c.offer-made.ensures

pub returns : goal.returns
unfolding found_from
returns c =
    walk_end c.requires.i_in_bounds c.loop-j.invariant (omega (arith, c.loop-j-test.false, c.targets-j-end.ensures))
