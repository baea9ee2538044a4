-- What `hand` leaves to be shown: no hand has the number, or its deck is dealt.
use mathlib.Core.Path.{sym, ap, ◌∙◌}
use native.Mathlib.Omega.{arith}
use Rattle.intake.specs.Deal.{deal_asked}
use Rattle.intake.proofs.Numbers.{number_zero, number_over, number_is}
use Rattle.intake.proofs.number.hand.Goals as goal

pub returns-then-number-eq0 : goal.returns-then-number-eq0
returns-then-number-eq0 c = sym (number_zero c.args.number c.if-number-eq0.true)

pub returns-then-number-gt-MOST_NUMBER : goal.returns-then-number-gt-MOST_NUMBER
returns-then-number-gt-MOST_NUMBER c = sym (number_over c.args.number c.if-number-gt-MOST_NUMBER.true)

pub returns : goal.returns
returns c =
    c.deal.ensures
    ∙ ap deal_asked c.deck_of-deck.ensures ∙ sym (number_is c.args.number (omega (arith, c.if-number-eq0.false)) (omega (arith, c.if-number-gt-MOST_NUMBER.false)))
