-- What `is_safe_at` leaves to be shown: a checking loop over the four suits.
use native.Mathlib.Omega.{arith}
use Rattle.base.proofs.Words.{every_none, every_more}
use Rattle.safe.proofs.Judging.{enough, low_safe, one_enough, too_few, all_enough}
use borrow.Author.Rules.{rules}
use Rattle.safe.proofs.is_safe_at.Goals as goal

pub returns-then-code-le2 : goal.returns-then-code-le2
returns-then-code-le2 c = low_safe c.args.foundation.now c.args.code (omega (arith, c.if-code-le2.true))

pub loop-s-init : goal.loop-s-init
loop-s-init c = (search rules, every_none (enough c.args.foundation.now c.args.code))

pub returns-then-foundation-suit : goal.returns-then-foundation-suit
returns-then-foundation-suit c = too_few c.args.foundation.now c.args.code (omega (arith, c.if-code-le2.false)) c.loop-s.s c.from-suit.ensures c.needed_of.ensures (omega (arith, c.loop-s-test.true)) c.if-foundation-suit.true

pub loop-s-preserved : goal.loop-s-preserved
loop-s-preserved c = (
  search rules,
  every_more (enough c.args.foundation.now c.args.code) c.loop-s.s c.loop-s.invariant.1
      (one_enough c.args.foundation.now c.args.code (omega (arith, c.if-code-le2.false)) c.loop-s.s c.from-suit.ensures c.needed_of.ensures c.if-foundation-suit.false),
)

pub returns : goal.returns
returns c = all_enough c.args.foundation.now c.args.code (omega (arith, c.if-code-le2.false)) c.loop-s.s c.loop-s.invariant.1 (omega (arith, c.loop-s-test.false))
