-- The four suits, their numbers 0 to 3, and their colours.
use Rattle.std.specs.Prelude.{ℕ, zero, suc, ltb}
use Rattle.base.specs.Answer.{Answer, given, unless}
use Rattle.card.specs.declared.Suit.{Suit}
use Rattle.card.specs.declared.Suit.TheVariants.{Club, Diamond, Heart, Spade}
use Rattle.card.specs.declared.Color.{Color}
use Rattle.card.specs.declared.Color.TheVariants.{Black, Red}

-- clubs, diamonds, hearts, spades
abbrev pub suit_number : Suit → ℕ
suit_number Club = 0
suit_number Diamond = 1
suit_number Heart = 2
suit_number Spade = 3

-- the suit with that number (there are none above 3: `suit_asked` refuses them first)
unfoldable pub suit_at : ℕ → Suit
suit_at zero = Club
suit_at (suc zero) = Diamond
suit_at (suc (suc zero)) = Heart
suit_at (suc (suc (suc n))) = Spade

-- clubs and spades are black
abbrev pub color_of : Suit → Color
color_of Club = Black
color_of Diamond = Red
color_of Heart = Red
color_of Spade = Black

-- which suit has this number: 30 for a number above 3
unfoldable pub suit_asked : ℕ → Answer Suit
suit_asked n = unless (ltb n 4) 30 (given (suit_at n))
