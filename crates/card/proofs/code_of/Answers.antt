-- What `code_of` leaves to be shown: the code fits a byte.
use native.Mathlib.Omega.{arith}
use Rattle.card.specs.Card.{code_of}
use Rattle.card.proofs.Codes.{value_is, suit_below}
use borrow.Author.Rules.{rules}
use Rattle.card.proofs.code_of.Goals as goal

pub overflow_mul-high : goal.overflow_mul-high
overflow_mul-high c = omega (arith, (value_is c.args.card.value c.requires).high)

pub overflow_add-result : goal.overflow_add-result
overflow_add-result c =
    omega (arith, (value_is c.args.card.value c.requires).high, c.number-low.ensures, suit_below c.args.card.suit)

pub returns : goal.returns
unfolding code_of
returns c = search rules
