-- What `is_card` leaves to be shown: value before suit.
use mathlib.Core.Path.{refl}
use Rattle.card.specs.Card.{is_card}
use Rattle.card.proofs.is_card.Goals as goal

pub returns-then-is_value : goal.returns-then-is_value
unfolding is_card
returns-then-is_value c = rw (← c.is_value.ensures, c.if-is_value.true) refl

pub returns-else-is_value : goal.returns-else-is_value
unfolding is_card
returns-else-is_value c = rw (← c.is_value.ensures, c.if-is_value.false) refl
