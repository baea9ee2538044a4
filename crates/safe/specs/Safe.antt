-- When a card may go home without a second thought.
use Rattle.std.specs.Prelude.{Bool, cond, ◌||◌, List, [], ◌∷◌, ◌++◌, ℕ, ◌-◌, ◌/◌, ◌%◌, eqb, leb, get_or, None, Some, Option}
use Rattle.std.specs.Bool.{xor}
use Rattle.base.specs.Words.{every}
use Rattle.card.specs.Suit.{suit_at, color_of}
use Rattle.card.specs.Card.{code_of}
use Rattle.board.specs.Table.{Table}
use Rattle.runs.specs.Follows.{is_red, red}
use Rattle.moves.specs.Move.{card}
use Rattle.moves.specs.declared.Move.{Move}
use Rattle.generate.specs.Found.{found}
use Rattle.generate.specs.declared.Way.TheVariants.{ColumnToHome, CellToHome}

-- a suit is red
unfoldable pub red_suit : ℕ → Bool
red_suit s = is_red (color_of (suit_at s))

-- how many cards of a suit have to be home before card x: one less than its rank of the other colour, two less of the other suit
-- of its own colour
unfoldable pub needed : ℕ → ℕ → ℕ
needed x s = cond (xor (red_suit s) (red x)) (x / 16 - 1) (cond (eqb s (x % 16)) 0 (x / 16 - 2))

-- an ace or a two is safe; any other card if as many as needed are home of each suit
unfoldable pub safe : List ℕ → ℕ → Bool
safe foundation x = leb (x / 16) 2 || every 4 (λ s. leb (needed x s) (get_or foundation s 0))

-- the moves of which p holds, in their order
unfoldable pub chosen : (Move → Bool) → List Move → List Move
chosen p [] = []
chosen p (m ∷ ms) = cond (p m) (m ∷ chosen p ms) (chosen p ms)

-- a move whose card is safe
unfoldable pub is_safe : Table → Move → Bool
is_safe t m = safe t.foundation (code_of (card m))

-- the moves home, the columns' before the cells'
unfoldable pub home_moves : Table → List Move
home_moves t = found t ColumnToHome ++ found t CellToHome

unfoldable pub first_of : List Move → Option Move
first_of [] = None
first_of (m ∷ ms) = Some m

-- the first safe move: the lowest column's, else the lowest cell's
unfoldable pub first_safe : Table → Option Move
first_safe t = first_of (chosen (is_safe t) (home_moves t))
