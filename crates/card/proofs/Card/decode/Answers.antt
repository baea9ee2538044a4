-- What `decode` leaves to be shown: the test is the definition's, and past it the card is.
use Rattle.card.specs.Card.{card_asked}
use Rattle.card.proofs.Card.decode.Goals as goal

pub card_of-requires : goal.card_of-requires
card_of-requires c = cc

pub returns-then-is_card : goal.returns-then-is_card
unfolding card_asked
returns-then-is_card c = rw (← c.is_card.ensures, c.if-is_card.true, c.card_of.ensures)

pub returns-else-is_card : goal.returns-else-is_card
unfolding card_asked
returns-else-is_card c = rw (← c.is_card.ensures, c.if-is_card.false)
