-- What a written move means on a table, and how a move is written there.
use Rattle.std.specs.Prelude.{Bool, true, false, cond, not, ◌&&◌, ℕ, zero, suc, min, eqb, leb, ltb, length, get_or}
use Rattle.base.specs.Answer.{Answer, given, unless}
use Rattle.board.specs.Table.{Table}
use Rattle.runs.specs.Run.{run_length}
use Rattle.rules.specs.Fit.{fits_on}
use Rattle.rules.specs.Limit.{most_moved}
use Rattle.moves.specs.Play.{there, last_of}
use Rattle.moves.specs.declared.Place.{Place}
use Rattle.moves.specs.declared.Place.TheVariants.{Column as column, Cell as cell}
use Rattle.moves.specs.declared.Move.{Move}
use Rattle.moves.specs.declared.Move.TheVariants.{TableauToTableau, TableauToFoundation, TableauToFreeCell, FreeCellToTableau, FreeCellToFoundation, FoundationToTableau}
use Rattle.generate.specs.Found.{offered}
use Rattle.generate.specs.declared.Way.TheVariants.{ColumnToColumn, ColumnToHome, ColumnToCell, CellToColumn, CellToHome}
use Rattle.notation.specs.declared.Jot.{Jot}
use Rattle.notation.specs.declared.Jot.TheVariants.{Between, Counted, ToCell, ToHome, FromCell, CellHome}

-- ---- how many cards

-- column j is empty
unfoldable pub vacant : Table → ℕ → Bool
vacant t j = eqb (length (there t (column j))) 0

-- the most that go from column i into an empty one: the lesser of limit and run
unfoldable pub most_into : Table → ℕ → ℕ → ℕ
most_into t i j = min (most_moved t.cells t.columns j) (run_length (there t (column i)))

-- the last n cards of column i fit column j
unfoldable pub fit_from : Table → ℕ → ℕ → ℕ → Bool
fit_from t i j n = fits_on (there t (column j)) (get_or (last_of n (there t (column i))) 0 0)

-- the count of at most n that fits, 0 if none does
unfoldable pub fitting_in : Table → ℕ → ℕ → ℕ → ℕ
fitting_in t i j zero = 0
fitting_in t i j (suc n) = cond (fit_from t i j (suc n)) (suc n) (fitting_in t i j n)

-- the count within the run that fits
unfoldable pub fitting : Table → ℕ → ℕ → ℕ
fitting t i j = fitting_in t i j (run_length (there t (column i)))

-- ---- reading

-- where a move takes from
abbrev pub origin : Jot → Place
origin (Between i j) = column i
origin (Counted i j n) = column i
origin (ToCell i c) = column i
origin (ToHome i) = column i
origin (FromCell c j) = cell c
origin (CellHome c) = cell c

-- not from a column to itself
abbrev pub leaves : Jot → Bool
leaves (Between i j) = not (eqb i j)
leaves (Counted i j n) = not (eqb i j)
leaves (ToCell i c) = true
leaves (ToHome i) = true
leaves (FromCell c j) = true
leaves (CellHome c) = true

-- a `v` goes into an empty column, with a digit from 1 to below the most
unfoldable pub count_goes : Table → ℕ → ℕ → ℕ → Bool
count_goes t i j n = vacant t j && (leb 1 n && ltb n (most_into t i j))

-- the move itself, with the card that lies there: 30 for a `v` that does not go, 38 where no count fits
abbrev pub sense : Table → Jot → Answer Move
sense t (Between i j) =
    cond (vacant t j) (given (offered t ColumnToColumn i j (most_into t i j)))
    (unless (leb 1 (fitting t i j)) 38 (given (offered t ColumnToColumn i j (fitting t i j))))
sense t (Counted i j n) = unless (count_goes t i j n) 30 (given (offered t ColumnToColumn i j n))
sense t (ToCell i c) = given (offered t ColumnToCell i c 1)
sense t (ToHome i) = given (offered t ColumnToHome i 0 1)
sense t (FromCell c j) = given (offered t CellToColumn c j 1)
sense t (CellHome c) = given (offered t CellToHome c 0 1)

-- 30 for a column to itself, then 33 for a source with no card
unfoldable pub meant : Table → Jot → Answer Move
meant t j = unless (leaves j) 30 (unless (leb 1 (length (there t (origin j)))) 33 (sense t j))

-- ---- writing

-- the notation has no sign for a card that comes back from its foundation
abbrev pub writable : Move → Bool
writable (TableauToTableau s d n c) = true
writable (TableauToFoundation s c) = true
writable (TableauToFreeCell s i c) = true
writable (FreeCellToTableau i d c) = true
writable (FreeCellToFoundation i c) = true
writable (FoundationToTableau s d c) = false

-- a move as it is written on a table (the last is not: 43 refuses it first)
unfoldable pub jot_of : Table → Move → Jot
jot_of t (TableauToTableau s d n c) = cond (vacant t d && ltb n (most_into t s d)) (Counted s d n) (Between s d)
jot_of t (TableauToFoundation s c) = ToHome s
jot_of t (TableauToFreeCell s i c) = ToCell s i
jot_of t (FreeCellToTableau i d c) = FromCell i d
jot_of t (FreeCellToFoundation i c) = CellHome i
jot_of t (FoundationToTableau s d c) = ToHome d
