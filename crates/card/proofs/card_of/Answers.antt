-- What `card_of` leaves to be shown: the definition is the same record.
use Rattle.card.specs.Card.{card_of}
use Rattle.card.proofs.card_of.Goals as goal

pub returns : goal.returns
unfolding card_of
returns c = rw c.suit_at-suit.ensures
