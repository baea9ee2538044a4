-- What `place_of` leaves to be shown: a card's value is at least 1, and the sums fit.
use borrow.Author.Rules.{rules}
use Rattle.card.specs.Pack.{place_of}
use Rattle.card.proofs.Codes.{card_is}
use Rattle.card.proofs.place_of.Goals as goal

pub overflow_sub-row : goal.overflow_sub-row
overflow_sub-row c = (card_is c.args.code c.requires).low

pub returns : goal.returns
unfolding place_of
returns c = search rules
