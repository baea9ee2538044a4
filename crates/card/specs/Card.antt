-- A card and its code: value * 16 + suit, with values 1 (ace) to 13 (king).
use Rattle.std.specs.Prelude.{Bool, ◌&&◌, ℕ, ◌+◌, ◌*◌, ◌/◌, ◌%◌, ltb, leb}
use Rattle.base.specs.Answer.{Answer, given, unless}
use Rattle.card.specs.Suit.{suit_number, suit_at}
use Rattle.card.specs.declared.Card.{Card}

-- ace to king
unfoldable pub is_value : ℕ → Bool
is_value v = leb 1 v && leb v 13

-- a card's code
unfoldable pub code_of : Card → ℕ
code_of c = c.value * 16 + suit_number c.suit

-- a number is some card's code
unfoldable pub is_card : ℕ → Bool
is_card x = is_value (x / 16) && ltb (x % 16) 4

-- the card with that code (`card_asked` refuses every other number first)
unfoldable pub card_of : ℕ → Card
card_of x = record { suit = suit_at (x % 16); value = x / 16 }

-- which card has this code: 30 for a number that is no card's
unfoldable pub card_asked : ℕ → Answer Card
card_asked x = unless (is_card x) 30 (given (card_of x))

-- what this card's code is: 30 for a value that no card has
unfoldable pub code_asked : Card → Answer ℕ
code_asked c = unless (is_value c.value) 30 (given (code_of c))
