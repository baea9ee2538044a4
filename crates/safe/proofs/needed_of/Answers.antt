-- What `needed_of` leaves to be shown: the other colour, its own suit, the other suit of its colour.
use Rattle.safe.proofs.Needing.{needs_one_less, needs_none, needs_two_less}
use Rattle.safe.proofs.needed_of.Goals as goal

pub returns-then-is_red : goal.returns-then-is_red
returns-then-is_red c = needs_one_less c.args.code c.args.s c.suit_at-other.ensures c.card_of-own.ensures c.is_red.ensures c.is_red-2.ensures c.if-is_red.true

pub returns-then-s-code : goal.returns-then-s-code
returns-then-s-code c = needs_none c.args.code c.args.s c.suit_at-other.ensures c.card_of-own.ensures c.is_red.ensures c.is_red-2.ensures c.if-is_red.false c.if-s-code.true

pub returns : goal.returns
returns c = needs_two_less c.args.code c.args.s c.suit_at-other.ensures c.card_of-own.ensures c.is_red.ensures c.is_red-2.ensures c.if-is_red.false c.if-s-code.false
