-- A move, as a player says it: from a place, to a place, so many cards, the deepest of them named.
use Rattle.std.specs.Prelude.{Bool, ◌&&◌, ℕ, leb, ltb}
use Rattle.card.specs.Suit.{suit_number}
use Rattle.card.specs.Card.{is_value}
use Rattle.card.specs.declared.Card.{Card}
use Rattle.moves.specs.declared.Move.{Move}
use Rattle.moves.specs.declared.Place.{Place}
use Rattle.moves.specs.declared.Place.TheVariants.{Column as column, Cell as cell, Home as home}
use Rattle.moves.specs.declared.Move.TheVariants.{TableauToTableau, TableauToFoundation, TableauToFreeCell, FreeCellToTableau, FreeCellToFoundation, FoundationToTableau}

-- where it takes from and where it goes to: a column 0 to 7, a cell 0 to 3, the foundation of a suit 0 to 3
abbrev pub from : Move → Place
from (TableauToTableau s d n c) = column s
from (TableauToFoundation s c) = column s
from (TableauToFreeCell s i c) = column s
from (FreeCellToTableau i d c) = cell i
from (FreeCellToFoundation i c) = cell i
from (FoundationToTableau s d c) = home (suit_number s)

abbrev pub to : Move → Place
to (TableauToTableau s d n c) = column d
to (TableauToFoundation s c) = home (suit_number c.suit)
to (TableauToFreeCell s i c) = cell i
to (FreeCellToTableau i d c) = column d
to (FreeCellToFoundation i c) = home (suit_number c.suit)
to (FoundationToTableau s d c) = column d

-- how many cards
abbrev pub count : Move → ℕ
count (TableauToTableau s d n c) = n
count (TableauToFoundation s c) = 1
count (TableauToFreeCell s i c) = 1
count (FreeCellToTableau i d c) = 1
count (FreeCellToFoundation i c) = 1
count (FoundationToTableau s d c) = 1

-- the deepest card moved
abbrev pub card : Move → Card
card (TableauToTableau s d n c) = c
card (TableauToFoundation s c) = c
card (TableauToFreeCell s i c) = c
card (FreeCellToTableau i d c) = c
card (FreeCellToFoundation i c) = c
card (FoundationToTableau s d c) = c

-- a place that there is
abbrev pub is_place : Place → Bool
is_place (column i) = ltb i 8
is_place (cell i) = ltb i 4
is_place (home s) = ltb s 4

-- a move that a record can say: its places are there, its card is one, its count is from 1 to 255
unfoldable pub sayable : Move → Bool
sayable m = is_place (from m) && (is_place (to m) && ((leb 1 (count m) && leb (count m) 255) && is_value (card m).value))
