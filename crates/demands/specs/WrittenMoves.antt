-- One written move on a table, in request (iv)'s words: how many cards it takes, what is wrong with it, and which move it is.
use Rattle.std.specs.Prelude.{◌≡◌, true, ◌⊎◌, [], ℕ, ◌≤◌, length}
use Rattle.board.specs.Table.{Table}
use Rattle.runs.specs.Run.{run_length}
use Rattle.moves.specs.Play.{there}
use Rattle.moves.specs.declared.Place.TheVariants.{Column as column}
use Rattle.moves.specs.declared.Move.{Move}
use Rattle.generate.specs.Found.{offered}
use Rattle.generate.specs.declared.Way.TheVariants.{ColumnToColumn, ColumnToHome, ColumnToCell, CellToColumn, CellToHome}
use Rattle.sense.specs.Meant.{most_into, fit_from, origin}
use Rattle.notation.specs.declared.Jot.{Jot}
use Rattle.notation.specs.declared.Jot.TheVariants.{Between, Counted, ToCell, ToHome, FromCell, CellHome}

-- ---- how many cards

-- a column with no card, and one with some
abbrev pub Bare : Table → ℕ → Type 0
Bare t j = there t (column j) ≡ []

abbrev pub Occupied : Table → ℕ → Type 0
Occupied t j = 1 ≤ length (there t (column j))

-- a count within the run of column i that fits column j
pub record Fits (t : Table) (i j n : ℕ) : Type 0 where
  pub some : 1 ≤ n
  pub run : n ≤ run_length (there t (column i))
  pub fits : fit_from t i j n ≡ true

-- "From a column into an empty one, where the most is the lesser of limit and run, a smaller count adds `v` and one .. digit; without it
-- the count is the most. Into an occupied column the count is the one within the run that fits." Any other move takes one card.
abbrev pub Counts : Table → Jot → ℕ → Type 0
Counts t (Between i j) n = (Bare t j → n ≡ most_into t i j) × (Occupied t j → Fits t i j n)
Counts t (Counted i j k) n = n ≡ k
Counts t (ToCell i c) n = n ≡ 1
Counts t (ToHome i) n = n ≡ 1
Counts t (FromCell c j) n = n ≡ 1
Counts t (CellHome c) n = n ≡ 1

-- ---- what is wrong with it

-- "a column to itself"
abbrev pub OwnColumn : Jot → Type 0
OwnColumn (Between i j) = i ≡ j
OwnColumn (Counted i j n) = i ≡ j
OwnColumn (ToCell i c) = ⊥
OwnColumn (ToHome i) = ⊥
OwnColumn (FromCell c j) = ⊥
OwnColumn (CellHome c) = ⊥

-- "a source with no card"
abbrev pub NoCard : Table → Jot → Type 0
NoCard t w = there t (origin w) ≡ []

-- "a `v` on an occupied destination or with a digit that is 0 or not below the most"
abbrev pub WrongCount : Table → Jot → Type 0
WrongCount t (Between i j) = ⊥
WrongCount t (Counted i j n) = Occupied t j ⊎ ((n ≡ 0) ⊎ (most_into t i j ≤ n))
WrongCount t (ToCell i c) = ⊥
WrongCount t (ToHome i) = ⊥
WrongCount t (FromCell c j) = ⊥
WrongCount t (CellHome c) = ⊥

-- "an occupied destination that no count fits"
abbrev pub NoneFits : Table → Jot → Type 0
NoneFits t (Between i j) = Occupied t j × ((n : ℕ) → Fits t i j n → ⊥)
NoneFits t (Counted i j n) = ⊥
NoneFits t (ToCell i c) = ⊥
NoneFits t (ToHome i) = ⊥
NoneFits t (FromCell c j) = ⊥
NoneFits t (CellHome c) = ⊥

-- "in this order, a column to itself is 30, a source with no card 33, a `v` .. 30, and an occupied destination that no count fits 38": the
-- number of the first that holds
pub data Wrong (t : Table) (w : Jot) (number : ℕ) : Type 0 where
  own_column : OwnColumn w → number ≡ 30 → Wrong t w number
  no_card : (OwnColumn w → ⊥) → NoCard t w → number ≡ 33 → Wrong t w number
  wrong_count : (OwnColumn w → ⊥) → (NoCard t w → ⊥) → WrongCount t w → number ≡ 30 → Wrong t w number
  none_fits : (OwnColumn w → ⊥) → (NoCard t w → ⊥) → (WrongCount t w → ⊥) → NoneFits t w → number ≡ 38 → Wrong t w number

-- ---- which move it is

-- with so many cards, the deepest of them named
abbrev pub move_with : Table → Jot → ℕ → Move
move_with t (Between i j) n = offered t ColumnToColumn i j n
move_with t (Counted i j k) n = offered t ColumnToColumn i j n
move_with t (ToCell i c) n = offered t ColumnToCell i c n
move_with t (ToHome i) n = offered t ColumnToHome i 0 n
move_with t (FromCell c j) n = offered t CellToColumn c j n
move_with t (CellHome c) n = offered t CellToHome c 0 n

-- nothing of the above is wrong with it, and it is this move
pub record Means (t : Table) (w : Jot) (m : Move) : Type 0 where
  pub away : OwnColumn w → ⊥
  pub some : NoCard t w → ⊥
  pub goes : WrongCount t w → ⊥
  pub count : ℕ
  pub counts : Counts t w count
  pub is : m ≡ move_with t w count
