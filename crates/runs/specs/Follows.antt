-- Which card may lie on which. The rule of the game is `follows`, and nothing else says it.
use Rattle.std.specs.Prelude.{Bool, true, false, ◌&&◌, ℕ, ◌+◌, ◌/◌, eqb}
use Rattle.std.specs.Bool.{xor}
use Rattle.card.specs.Card.{card_of}
use Rattle.card.specs.Suit.{color_of}
use Rattle.card.specs.declared.Color.{Color}
use Rattle.card.specs.declared.Color.TheVariants.{Black, Red}

abbrev pub is_red : Color → Bool
is_red Red = true
is_red Black = false

-- a card is red
unfoldable pub red : ℕ → Bool
red x = is_red (color_of (card_of x).suit)

-- `lower` may lie on `upper`: one less in value, of the other colour
unfoldable pub follows : ℕ → ℕ → Bool
follows upper lower = eqb (upper / 16) (lower / 16 + 1) && xor (red upper) (red lower)
