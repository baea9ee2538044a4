-- Why moves are refused on two small boards, evaluated: every number, and 0 for moves that are allowed.
use mathlib.Core.Path.{◌≡◌, refl}
use mathlib.Core.Bool.{xor}
use mathlib.Core.List.{List, [], ◌∷◌}
use Prim.Native.Nat.{ℕ}
use Rattle.base.specs.Answer.{given, refused}
use Rattle.base.specs.Words.{listed, sum}
use Rattle.card.specs.Card.{code_of, card_of}
use Rattle.card.specs.Suit.{suit_at}
use Rattle.board.specs.Table.{Table, pile, held}
use Rattle.board.specs.Verdict.{Verdict}
use Rattle.questions.specs.Questions.{empty_cells, empty_columns}
use Rattle.runs.specs.Follows.{red, follows}
use Rattle.runs.specs.Run.{is_run}
use Rattle.rules.specs.Fit.{fits_on, home_takes}
use Rattle.rules.specs.Limit.{usable, most_moved}
use Rattle.moves.specs.Record.{move_said, move_of}
use Rattle.moves.specs.Play.{last_of, hand}
use Rattle.moves.specs.Causes.{causes, passes, first_of, ruling}

as_number : Verdict → ℕ
as_number (given u) = 0
as_number (refused n) = n

-- what is said of the moves of some records
numbers : Table → List (List ℕ) → List ℕ
numbers t [] = []
numbers t (r ∷ rs) = as_number (ruling t (move_of r)) ∷ numbers t rs

-- every card is home but the king of spades, alone in the first column
abbrev S : Table
S =
    record {
      cells = 255 ∷ 255 ∷ 255 ∷ 255 ∷ [];
      foundation = 13 ∷ 13 ∷ 13 ∷ 12 ∷ [];
      columns = (211 ∷ []) ∷ [] ∷ [] ∷ [] ∷ [] ∷ [] ∷ [] ∷ [] ∷ [];
    }

-- every suit is home up to its eight; KS QH JS TH 9S | - | KH QS | KC QD | KD QC | JD TC | JC TD | JH TS 9C, and 9H, 9D in cells
abbrev M : Table
M =
    record {
      cells = 146 ∷ 145 ∷ 255 ∷ 255 ∷ [];
      foundation = 8 ∷ 8 ∷ 8 ∷ 8 ∷ [];
      columns =
          (211 ∷ 194 ∷ 179 ∷ 162 ∷ 147 ∷ [])
          ∷ []
          ∷ (210 ∷ 195 ∷ [])
          ∷ (208 ∷ 193 ∷ [])
          ∷ (209 ∷ 192 ∷ [])
          ∷ (177 ∷ 160 ∷ [])
          ∷ (176 ∷ 161 ∷ [])
          ∷ (178 ∷ 163 ∷ 144 ∷ [])
          ∷ [];
    }

-- its own column before an empty one; empty; too many before another card; another card; an empty cell, twice; a queen on the king
-- of her suit; the king of clubs back from home
on_S : numbers S (
    (1 ∷ 1 ∷ 1 ∷ 1 ∷ 211 ∷ [])
    ∷ (1 ∷ 1 ∷ 0 ∷ 1 ∷ 211 ∷ [])
    ∷ (1 ∷ 0 ∷ 1 ∷ 2 ∷ 16 ∷ [])
    ∷ (2 ∷ 0 ∷ 3 ∷ 1 ∷ 195 ∷ [])
    ∷ (4 ∷ 0 ∷ 0 ∷ 1 ∷ 211 ∷ [])
    ∷ (5 ∷ 0 ∷ 3 ∷ 1 ∷ 211 ∷ [])
    ∷ (6 ∷ 3 ∷ 0 ∷ 1 ∷ 195 ∷ [])
    ∷ (6 ∷ 0 ∷ 1 ∷ 1 ∷ 208 ∷ [])
    ∷ []) ≡ 30 ∷ 33 ∷ 35 ∷ 34 ∷ 33 ∷ 33 ∷ 38 ∷ 0 ∷ []
unfolding numbers as_number ruling first_of causes passes move_of move_said hand last_of listed sum code_of card_of suit_at pile held empty_cells empty_columns red follows xor is_run fits_on home_takes usable most_moved
on_S = refl

-- five cards at a limit of three; three of them; one more than lie there; another card before the limit; no run before no fit; no
-- fit; a cell that is taken; a queen before the nine; a card from home that does not fit; the nine of hearts goes home
on_M : numbers M (
    (1 ∷ 0 ∷ 1 ∷ 5 ∷ 211 ∷ [])
    ∷ (1 ∷ 0 ∷ 1 ∷ 3 ∷ 179 ∷ [])
    ∷ (1 ∷ 0 ∷ 1 ∷ 6 ∷ 211 ∷ [])
    ∷ (1 ∷ 0 ∷ 1 ∷ 5 ∷ 16 ∷ [])
    ∷ (1 ∷ 7 ∷ 0 ∷ 3 ∷ 178 ∷ [])
    ∷ (1 ∷ 0 ∷ 2 ∷ 1 ∷ 147 ∷ [])
    ∷ (3 ∷ 0 ∷ 0 ∷ 1 ∷ 147 ∷ [])
    ∷ (2 ∷ 2 ∷ 3 ∷ 1 ∷ 195 ∷ [])
    ∷ (6 ∷ 0 ∷ 0 ∷ 1 ∷ 128 ∷ [])
    ∷ (5 ∷ 0 ∷ 2 ∷ 1 ∷ 146 ∷ [])
    ∷ []) ≡ 36 ∷ 0 ∷ 35 ∷ 34 ∷ 37 ∷ 38 ∷ 39 ∷ 40 ∷ 38 ∷ 0 ∷ []
unfolding numbers as_number ruling first_of causes passes move_of move_said hand last_of listed sum code_of card_of suit_at pile held empty_cells empty_columns red follows xor is_run fits_on home_takes usable most_moved
on_M = refl

-- M with every cell taken: two cards at once, and no more. Three that are no run are too many first
crowded : numbers (record { cells = 146 ∷ 145 ∷ 130 ∷ 131 ∷ []; foundation = M.foundation; columns = M.columns }) ((1 ∷ 7 ∷ 0 ∷ 3 ∷ 178 ∷ []) ∷ []) ≡ 36 ∷ []
unfolding numbers as_number ruling first_of causes passes move_of move_said hand last_of listed sum code_of card_of suit_at pile held empty_cells empty_columns red follows xor is_run fits_on home_takes usable most_moved
crowded = refl
