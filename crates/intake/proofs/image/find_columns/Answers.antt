-- What `find_columns` leaves to be shown: a walk over the image's columns.
use native.Mathlib.Omega.{arith}
use Rattle.intake.proofs.Walking.{walk_start, walk_short, walk_past, walk_over, walk_end, walk_next}
use Rattle.intake.proofs.image.find_columns.Goals as goal

pub loop-i-init : goal.loop-i-init
loop-i-init c = walk_start c.args.image.now c.requires

pub returns-then-image-at : goal.returns-then-image-at
returns-then-image-at c = walk_short c.loop-i.invariant c.loop-i-test.true c.if-image-at.true

pub overflow_add-end : goal.overflow_add-end
overflow_add-end c = omega (arith, c.from.ensures, c.shared_slice_known-in-loop-i-1.given c.loop-i.at)

pub returns-then-image-end : goal.returns-then-image-end
returns-then-image-end c = walk_past c.loop-i.invariant c.loop-i-test.true c.if-image-at.false c.from.result c.from.ensures c.if-image-end.true

pub loop-i-preserved : goal.loop-i-preserved
loop-i-preserved c = walk_next c.loop-i.invariant c.loop-i-test.true c.from.result c.from.ensures c.if-image-end.false

pub returns-then-at-image : goal.returns-then-at-image
returns-then-at-image c = walk_over c.loop-i.invariant c.loop-i-test.false c.if-at-image.true

pub returns : goal.returns
returns c = walk_end c.loop-i.invariant c.loop-i-test.false c.if-at-image.false
