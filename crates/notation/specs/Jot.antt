-- A move as players write it: two signs, and for fewer cards than the most `v` and a digit. A line has one space between two moves.
use Rattle.std.specs.Prelude.{cond, List, [], ◌∷◌, ◌++◌, ℕ, ◌+◌, ◌<◌, ltb}
use Rattle.notation.specs.declared.Jot.{Jot}
use Rattle.notation.specs.declared.Jot.TheVariants.{Between, Counted, ToCell, ToHome, FromCell, CellHome}

-- columns 1 to 8, cells a to d, h for home
abbrev pub column_sign : ℕ → ℕ
column_sign i = 49 + i

abbrev pub cell_sign : ℕ → ℕ
cell_sign i = 97 + i

abbrev pub home_sign : ℕ
home_sign = 104

-- v, and a hexadecimal digit: 0 to 9, a to f
abbrev pub count_sign : ℕ
count_sign = 118

unfoldable pub digit_sign : ℕ → ℕ
digit_sign n = cond (ltb n 10) (48 + n) (87 + n)

abbrev pub space : ℕ
space = 32

unfoldable pub jot_text : Jot → List ℕ
jot_text (Between i j) = column_sign i ∷ column_sign j ∷ []
jot_text (Counted i j n) = column_sign i ∷ column_sign j ∷ count_sign ∷ digit_sign n ∷ []
jot_text (ToCell i c) = column_sign i ∷ cell_sign c ∷ []
jot_text (ToHome i) = column_sign i ∷ home_sign ∷ []
jot_text (FromCell c j) = cell_sign c ∷ column_sign j ∷ []
jot_text (CellHome c) = cell_sign c ∷ home_sign ∷ []

-- one space between two moves, none at either end
unfoldable pub line_text : List Jot → List ℕ
line_text [] = []
line_text (j ∷ []) = jot_text j
line_text (j ∷ k ∷ js) = jot_text j ++ (space ∷ line_text (k ∷ js))

-- ---- what the laws speak of

-- its columns, its cell and its digit are there
abbrev pub WellMade : Jot → Type 0
WellMade (Between i j) = (i < 8) × (j < 8)
WellMade (Counted i j n) = (i < 8) × ((j < 8) × (n < 16))
WellMade (ToCell i c) = (i < 8) × (c < 4)
WellMade (ToHome i) = i < 8
WellMade (FromCell c j) = (c < 4) × (j < 8)
WellMade (CellHome c) = c < 4

abbrev pub AllWell : List Jot → Type 0
AllWell [] = Unit {0}
AllWell (j ∷ js) = WellMade j × AllWell js
