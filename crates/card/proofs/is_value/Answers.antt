-- What `is_value` leaves to be shown: the lower bound first.
use borrow.Author.Tests.{le-leb, lt-leb}
use mathlib.Core.Path.{refl}
use Rattle.card.specs.Card.{is_value}
use Rattle.card.proofs.is_value.Goals as goal

pub returns-then-value-ge1 : goal.returns-then-value-ge1
unfolding is_value
returns-then-value-ge1 c = rw (le-leb 1 c.args.value c.if-value-ge1.true) refl

pub returns-else-value-ge1 : goal.returns-else-value-ge1
unfolding is_value
returns-else-value-ge1 c = rw (lt-leb 1 c.args.value c.if-value-ge1.false) refl
