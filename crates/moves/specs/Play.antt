-- What a move does, once for all kinds: cards are taken up at one place and put down at another.
use Rattle.std.specs.Prelude.{Bool, true, not, ◌&&◌, List, [], ◌∷◌, ◌++◌, ℕ, ◌-◌, eqb, leb, length, get_or, take, drop, set}
use Rattle.card.specs.Card.{code_of}
use Rattle.board.specs.Table.{Table, pile, held}
use Rattle.rules.specs.Fit.{fits_on, home_takes}
use Rattle.runs.specs.Run.{is_run}
use Rattle.rules.specs.Limit.{most_moved}
use Rattle.moves.specs.Move.{from, to, count, card}
use Rattle.moves.specs.declared.Place.{Place}
use Rattle.moves.specs.declared.Place.TheVariants.{Column as column, Cell as cell, Home as home}
use Rattle.moves.specs.declared.Move.{Move}

-- the cards at a place, the deepest first
abbrev pub there : Table → Place → List ℕ
there t (column i) = get_or t.columns i []
there t (cell i) = held (get_or t.cells i 0 ∷ [])
there t (home s) = pile s (get_or t.foundation s 0)

-- the code of a cell that holds these cards
abbrev pub cell_code : List ℕ → ℕ
cell_code [] = 255
cell_code (x ∷ l) = x

-- the table with these cards at a place, and all else as it was
abbrev pub put : Table → Place → List ℕ → Table
put t (column i) l = record { cells = t.cells; foundation = t.foundation; columns = set t.columns i l }
put t (cell i) l = record { cells = set t.cells i (cell_code l); foundation = t.foundation; columns = t.columns }
put t (home s) l = record { cells = t.cells; foundation = set t.foundation s (length l); columns = t.columns }

-- the last n cards, and the others
unfoldable pub last_of : ℕ → List ℕ → List ℕ
last_of n l = drop (length l - n) l

unfoldable pub others_of : ℕ → List ℕ → List ℕ
others_of n l = take (length l - n) l

-- the cards that a move takes up, and the table without them
unfoldable pub hand : Table → Move → List ℕ
hand t m = last_of (count m) (there t (from m))

unfoldable pub without : Table → Move → Table
without t m = put t (from m) (others_of (count m) (there t (from m)))

-- the table after a move
unfoldable pub after_move : Table → Move → Table
after_move t m = put (without t m) (to m) (there (without t m) (to m) ++ hand t m)

-- ---- when a move is allowed

-- not from a column to itself
abbrev pub elsewhere : Place → Place → Bool
elsewhere (column i) (column j) = not (eqb i j)
elsewhere (column i) (cell j) = true
elsewhere (column i) (home s) = true
elsewhere (cell i) p = true
elsewhere (home s) p = true

-- from column to column no more than the limit, and a run
abbrev pub within_limit : Table → Place → Place → ℕ → Bool
within_limit t (column i) (column j) n = leb n (most_moved t.cells t.columns j)
within_limit t (column i) (cell j) n = true
within_limit t (column i) (home s) n = true
within_limit t (cell i) p n = true
within_limit t (home s) p n = true

-- the place takes a card, x being the deepest that comes
abbrev pub fits_column : Table → Place → ℕ → Bool
fits_column t (column i) x = fits_on (get_or t.columns i []) x
fits_column t (cell i) x = true
fits_column t (home s) x = true

abbrev pub cell_free : Table → Place → Bool
cell_free t (column i) = true
cell_free t (cell i) = eqb (get_or t.cells i 0) 255
cell_free t (home s) = true

abbrev pub next_home : Table → Place → ℕ → Bool
next_home t (column i) x = true
next_home t (cell i) x = true
next_home t (home s) x = home_takes t.foundation x

-- the last three tests: the place takes the card
unfoldable pub takes : Table → Place → ℕ → Bool
takes t p x = fits_column t p x && (cell_free t p && next_home t p x)

-- a move is allowed: it passes all of these tests (Causes.antt says which number is given if it does not)
unfoldable pub allowed : Table → Move → Bool
allowed t m =
    elsewhere (from m) (to m)
    && (leb 1 (length (there t (from m)))
    && (leb (count m) (length (there t (from m)))
    && (eqb (get_or (hand t m) 0 0) (code_of (card m))
    && (within_limit t (from m) (to m) (count m)
    && (is_run (hand t m) && takes t (to m) (code_of (card m)))))))

-- ---- what the laws speak of

-- 1 for a foundation, 0 for a column or a cell
abbrev pub homeward : Place → ℕ
homeward (column i) = 0
homeward (cell i) = 0
homeward (home s) = 1
