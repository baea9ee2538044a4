-- The allowed moves of a kind, in SCOPE.md's order: by source, then by destination, then by length.
use Rattle.std.specs.Prelude.{◌≡◌, cond, ◌⊎◌, List, [], ◌∷◌, ◌++◌, ℕ, zero, suc, get_or}
use Rattle.card.specs.Suit.{suit_at}
use Rattle.card.specs.Card.{card_of}
use Rattle.card.specs.declared.Card.{Card}
use Rattle.board.specs.Table.{Table}
use Rattle.moves.specs.declared.Place.{Place}
use Rattle.moves.specs.declared.Place.TheVariants.{Column as column, Cell as cell, Home as home}
use Rattle.moves.specs.Play.{there, last_of, allowed}
use Rattle.moves.specs.declared.Move.{Move}
use Rattle.moves.specs.declared.Move.TheVariants.{TableauToTableau, TableauToFoundation, TableauToFreeCell, FreeCellToTableau, FreeCellToFoundation, FoundationToTableau}
use Rattle.generate.specs.declared.Way.{Way}
use Rattle.generate.specs.declared.Way.TheVariants.{ColumnToColumn, ColumnToHome, ColumnToCell, CellToColumn, CellToHome, HomeToColumn}

-- the places that a kind of move takes from: their number, and each of them
abbrev pub source_count : Way → ℕ
source_count ColumnToColumn = 8
source_count ColumnToHome = 8
source_count ColumnToCell = 8
source_count CellToColumn = 4
source_count CellToHome = 4
source_count HomeToColumn = 4

abbrev pub source : Way → ℕ → Place
source ColumnToColumn i = column i
source ColumnToHome i = column i
source ColumnToCell i = column i
source CellToColumn i = cell i
source CellToHome i = cell i
source HomeToColumn i = home i

-- how many places it can go to: a card has one foundation
abbrev pub target_count : Way → ℕ
target_count ColumnToColumn = 8
target_count ColumnToHome = 1
target_count ColumnToCell = 4
target_count CellToColumn = 8
target_count CellToHome = 1
target_count HomeToColumn = 8

-- the longest that is tried: a run has at most 13 cards
abbrev pub length_count : Way → ℕ
length_count ColumnToColumn = 13
length_count ColumnToHome = 1
length_count ColumnToCell = 1
length_count CellToColumn = 1
length_count CellToHome = 1
length_count HomeToColumn = 1

-- the move of a kind from place i to place j, of n cards, with a card
abbrev pub move_from : Way → ℕ → ℕ → ℕ → Card → Move
move_from ColumnToColumn i j n c = TableauToTableau i j n c
move_from ColumnToHome i j n c = TableauToFoundation i c
move_from ColumnToCell i j n c = TableauToFreeCell i j c
move_from CellToColumn i j n c = FreeCellToTableau i j c
move_from CellToHome i j n c = FreeCellToFoundation i c
move_from HomeToColumn i j n c = FoundationToTableau (suit_at i) j c

-- that move, with the card that lies there
unfoldable pub offered : Table → Way → ℕ → ℕ → ℕ → Move
offered t w i j n = move_from w i j n (card_of (get_or (last_of n (there t (source w i))) 0 0))

unfoldable pub if_allowed : Table → Move → List Move
if_allowed t m = cond (allowed t m) (m ∷ []) []

-- f 0, f 1, .. f (n - 1), one list after the other
unfoldable pub gather : ℕ → (ℕ → List Move) → List Move
gather zero f = []
gather (suc n) f = gather n f ++ f n

-- the moves between two places, from a place, and all of a kind
unfoldable pub found_between : Table → Way → ℕ → ℕ → List Move
found_between t w i j = gather (length_count w) (λ k. if_allowed t (offered t w i j (suc k)))

unfoldable pub found_from : Table → Way → ℕ → List Move
found_from t w i = gather (target_count w) (found_between t w i)

unfoldable pub found : Table → Way → List Move
found t w = gather (source_count w) (found_from t w)

-- ---- what the laws speak of

-- the kind of a move
abbrev pub way_of : Move → Way
way_of (TableauToTableau s d n c) = ColumnToColumn
way_of (TableauToFoundation s c) = ColumnToHome
way_of (TableauToFreeCell s i c) = ColumnToCell
way_of (FreeCellToTableau i d c) = CellToColumn
way_of (FreeCellToFoundation i c) = CellToHome
way_of (FoundationToTableau s d c) = HomeToColumn

-- m stands in the list
abbrev pub is_in : Move → List Move → Type 0
is_in m [] = ⊥
is_in m (x ∷ l) = (m ≡ x) ⊎ is_in m l

-- the most moves of a kind on any table; together 836
abbrev pub most_found : Way → ℕ
most_found ColumnToColumn = 728
most_found ColumnToHome = 8
most_found ColumnToCell = 32
most_found CellToColumn = 32
most_found CellToHome = 4
most_found HomeToColumn = 32
