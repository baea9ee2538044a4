-- The form of a line, read sign by sign: what is due next, and the place of the first wrong sign (the length if the text is cut short).
use Rattle.std.specs.Prelude.{Bool, cond, ◌&&◌, ◌||◌, List, [], ◌∷◌, ℕ, suc, ◌-◌, eqb, leb, length, Result, Ok, Err}
use Rattle.notation.specs.Jot.{home_sign, count_sign, space}
use Rattle.notation.specs.declared.Jot.{Jot}
use Rattle.notation.specs.declared.Jot.TheVariants.{Between, Counted, ToCell, ToHome, FromCell, CellHome}
use Rattle.notation.specs.declared.Due.{Due}
use Rattle.notation.specs.declared.Due.TheVariants.{Source, OfColumn, OfCell, Pair, Digit, Whole}
use Rattle.notation.specs.declared.Step.{Step}
use Rattle.notation.specs.declared.Step.TheVariants.{On, Ends, Wrong}
use Rattle.notation.specs.declared.WrongSign.{WrongSign}

-- the signs, and what they say
unfoldable pub within : ℕ → ℕ → ℕ → Bool
within low high x = leb low x && leb x high

abbrev pub is_column : ℕ → Bool
is_column x = within 49 56 x

abbrev pub is_cell_sign : ℕ → Bool
is_cell_sign x = within 97 100 x

abbrev pub is_digit : ℕ → Bool
is_digit x = within 48 57 x || within 97 102 x

abbrev pub column_said : ℕ → ℕ
column_said x = x - 49

abbrev pub cell_said : ℕ → ℕ
cell_said x = x - 97

unfoldable pub digit_said : ℕ → ℕ
digit_said x = cond (leb x 57) (x - 48) (x - 87)

-- a sign where something is due: on to what is due then; a space after a whole move, which ends it; or wrong
unfoldable pub step_from : Due → ℕ → Step
step_from Source x = cond (is_column x) (On (OfColumn (column_said x))) (cond (is_cell_sign x) (On (OfCell (cell_said x))) Wrong)
step_from (OfColumn i) x =
    cond (is_column x) (On (Pair i (column_said x)))
    (cond (is_cell_sign x) (On (Whole (ToCell i (cell_said x)))) (cond (eqb x home_sign) (On (Whole (ToHome i))) Wrong))
step_from (OfCell c) x =
    cond (is_column x) (On (Whole (FromCell c (column_said x)))) (cond (eqb x home_sign) (On (Whole (CellHome c))) Wrong)
step_from (Pair i j) x = cond (eqb x space) (Ends (Between i j)) (cond (eqb x count_sign) (On (Digit i j)) Wrong)
step_from (Digit i j) x = cond (is_digit x) (On (Whole (Counted i j (digit_said x)))) Wrong
step_from (Whole j) x = cond (eqb x space) (Ends j) Wrong

-- a text read: the moves written there, or the place of the first wrong sign
pub data Reading : Type 0 where
  jots : List Jot → Reading
  wrong : ℕ → Reading

abbrev pub also : Jot → Reading → Reading
also j (jots js) = jots (j ∷ js)
also j (wrong p) = wrong p

-- the text ends where something is due
abbrev pub ending : Due → ℕ → Reading
ending Source at = wrong at
ending (OfColumn i) at = wrong at
ending (OfCell c) at = wrong at
ending (Pair i j) at = jots (Between i j ∷ [])
ending (Digit i j) at = wrong at
ending (Whole j) at = jots (j ∷ [])

-- on after a sign
abbrev pub onward : Step → ℕ → (Due → Reading) → Reading
onward (On d) at rest = rest d
onward (Ends j) at rest = also j (rest Source)
onward Wrong at rest = wrong at

-- what is left of a text from a place, where something is due
unfoldable pub read_from : Due → ℕ → List ℕ → Reading
read_from d at [] = ending d at
read_from d at (x ∷ text) = onward (step_from d x) at (λ e. read_from e (suc at) text)

-- a whole text: the empty one is the line with no moves
unfoldable pub line_in : List ℕ → Reading
line_in [] = jots []
line_in (x ∷ text) = read_from Source 0 (x ∷ text)

-- how many moves, or which sign is wrong
abbrev pub formed_by : Reading → Result ℕ WrongSign
formed_by (jots js) = Ok (length js)
formed_by (wrong p) = Err (record { place = p })
