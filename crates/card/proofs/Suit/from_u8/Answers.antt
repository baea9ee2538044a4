-- What `from_u8` leaves to be shown: the test is the definition's, and past it the suit is.
use borrow.Author.Tests.{le-ltb, lt-ltb}
use Rattle.card.specs.Suit.{suit_asked}
use Rattle.card.proofs.Suit.from_u8.Goals as goal

pub returns-then-v-lt4 : goal.returns-then-v-lt4
unfolding suit_asked
returns-then-v-lt4 c = rw (lt-ltb c.args.v 4 c.if-v-lt4.true, c.suit_at.ensures)

pub returns-else-v-lt4 : goal.returns-else-v-lt4
unfolding suit_asked
returns-else-v-lt4 c = rw (le-ltb c.args.v 4 c.if-v-lt4.false)
