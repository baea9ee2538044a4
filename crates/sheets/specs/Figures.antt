-- What stands on a sheet, and at which of its 716 words. A sheet knows no cards.
use Rattle.std.specs.Prelude.{List, [], ◌∷◌, ◌++◌, ℕ, ◌+◌, get_or}
use Rattle.base.specs.Words.{listed}
use Rattle.sheets.specs.declared.Side.{Side}
use Rattle.sheets.specs.declared.Side.TheVariants.{Shortest as shortest, Longest as longest}

-- the answers that are counted, in the order in which they stand
abbrev pub answers_counted : List ℕ
answers_counted = 0 ∷ 1 ∷ 2 ∷ 3 ∷ 4 ∷ 5 ∷ 23 ∷ []

-- a list of most moves, and the last deal number
abbrev pub longest_list : ℕ
longest_list = 200

abbrev pub last_deal : ℕ
last_deal = 32000

pub data Figure : Type 0 where
  -- the settings
  the_budget : Figure
  the_capacity : Figure
  the_flag : Figure
  -- how many gave the k-th of the answers counted
  answers : ℕ → Figure
  -- all pops together
  all_pops : Figure
  -- the length of the shortest or the longest won list, and the lowest deal number with it; 0 and 0 without a win
  mark_list : Side → Figure
  mark_deal : Side → Figure
  -- how many won lists have so many moves
  lists : ℕ → Figure
  -- which of 64 deal numbers are covered, a bit a number: bit b of word w is number 64 w + b + 1
  covers : ℕ → Figure

abbrev pub sheet_room : ℕ
sheet_room = 716

abbrev pub place_of : Figure → ℕ
place_of the_budget = 0
place_of the_capacity = 1
place_of the_flag = 2
place_of (answers k) = 3 + k
place_of all_pops = 10
place_of (mark_list shortest) = 11
place_of (mark_deal shortest) = 12
place_of (mark_list longest) = 13
place_of (mark_deal longest) = 14
place_of (lists m) = 15 + m
place_of (covers w) = 216 + w

-- a figure, told by a sheet's words
unfoldable pub told : List ℕ → Figure → ℕ
told sheet g = get_or sheet (place_of g) 0

-- the words of a sheet on which f says what stands
unfoldable pub words_of : (Figure → ℕ) → List ℕ
words_of f =
    (f the_budget ∷ f the_capacity ∷ f the_flag ∷ [])
    ++ (listed 7 (λ k. f (answers k))
    ++ ((f all_pops ∷ f (mark_list shortest) ∷ f (mark_deal shortest) ∷ f (mark_list longest) ∷ f (mark_deal longest) ∷ [])
    ++ (listed 201 (λ m. f (lists m)) ++ listed 500 (λ w. f (covers w)))))
