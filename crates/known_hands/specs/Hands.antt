-- The known hands P1 to P11 of SCOPE.md, and one of request (v), as one table.
use Rattle.std.specs.Prelude.{Bool, true, false, ◌&&◌, not, List, [], ◌∷◌, ℕ, eqb, ltb, ℤ, pos}
use Rattle.std.specs.Bool.{xor}
use Rattle.std.specs.Int.Signed.{le_z}
use Rattle.card.specs.Card.{is_card}
use Rattle.board.specs.Table.{Table}
use Rattle.rules.specs.Limit.{most_moved}
use Rattle.moves.specs.Written.{bytes_of}
use Rattle.features.specs.Features.{features_of}
use Rattle.score.specs.Scores.{heuristic, progress}
use Rattle.safe.specs.Safe.{safe}
use Rattle.moves.specs.declared.Move.{Move}
use Rattle.search.specs.Solve.{Perhaps, none, some, Answer}
use Rattle.search.specs.Freecell.{freecell, judge}
use Rattle.known_hands.specs.Boards.{won, S, T, fresh, crowded, laid, is_board}

-- what is asked about a board, and the answer expected
pub data Question : Type 0 where
  -- the heuristic and the progress score
  scores : ℤ → ℤ → Question
  -- a search with a budget, a capacity, and each of these flags (partial allowed or not): its number, its pops, the bytes of its list
  judging : ℕ → ℕ → List Bool → ℕ → ℕ → Perhaps (List ℕ) → Question
  -- the most cards moved into a column
  limit : ℕ → ℕ → Question
  -- whether a card is safe
  safely : ℕ → Bool → Question

pub record Hand : Type 0 where
  pub board : Table
  pub question : Question

-- ---- equal answers

unfoldable pub same_score : ℤ → ℤ → Bool
same_score a b = le_z a b && le_z b a

unfoldable pub same_bytes : List ℕ → List ℕ → Bool
same_bytes [] [] = true
same_bytes [] (y ∷ m) = false
same_bytes (x ∷ l) [] = false
same_bytes (x ∷ l) (y ∷ m) = eqb x y && same_bytes l m

abbrev pub same_list : Perhaps (List Move) → Perhaps (List ℕ) → Bool
same_list none none = true
same_list none (some m) = false
same_list (some l) none = false
same_list (some l) (some m) = same_bytes (bytes_of l) m

unfoldable pub same_answer : Answer freecell → ℕ → ℕ → Perhaps (List ℕ) → Bool
same_answer a number pops list = eqb a.number number && (eqb a.pops pops && same_list a.list list)

-- ---- the claim

unfoldable pub for_each : (Bool → Bool) → List Bool → Bool
for_each p [] = true
for_each p (x ∷ l) = p x && for_each p l

abbrev pub answered : Table → Question → Bool
answered t (scores h p) = same_score (heuristic (features_of t)) h && same_score (progress (features_of t)) p
answered t (judging budget capacity flags number pops list) = for_each (λ partial. same_answer (judge t budget capacity partial) number pops list) flags
answered t (limit to n) = ltb to 8 && eqb (most_moved t.cells t.columns to) n
answered t (safely x expected) = is_card x && not (xor (safe t.foundation x) expected)

-- a hand holds: its board is one, and its question is answered as expected
unfoldable pub holds : Hand → Bool
holds h = is_board h.board && answered h.board h.question

unfoldable pub all_hold : List Hand → Bool
all_hold [] = true
all_hold (h ∷ hs) = holds h && all_hold hs

-- the three of hearts
abbrev pub three : ℕ
three = 50

abbrev pub no_partial : List Bool
no_partial = false ∷ []

abbrev pub with_partial : List Bool
with_partial = true ∷ []

abbrev pub any_flag : List Bool
any_flag = false ∷ true ∷ []

-- ---- the table, row by row

abbrev pub P1 : Hand
P1 = record { board = won; question = judging 0 1 any_flag 0 0 (some []) }

abbrev pub P2 : Hand
P2 = record { board = S; question = scores (pos 29) (pos 128275) }

abbrev pub P3 : Hand
P3 = record { board = S; question = judging 0 2 any_flag 3 0 none }

abbrev pub P4 : Hand
P4 = record { board = S; question = judging 1 2 no_partial 3 1 none }

-- the spade king goes home from column 0
abbrev pub king_home : List ℕ
king_home = 2 ∷ 0 ∷ 3 ∷ 1 ∷ 211 ∷ []

-- request (v): the same with partial allowed, where the best line ends won
abbrev pub P4_partial : Hand
P4_partial = record { board = S; question = judging 1 2 with_partial 5 1 (some king_home) }

abbrev pub P5 : Hand
P5 = record { board = S; question = judging 2 2 any_flag 0 2 (some king_home) }

abbrev pub P6 : Hand
P6 = record { board = S; question = judging 2 1 any_flag 23 1 none }

abbrev pub P7 : Hand
P7 = record { board = T; question = judging 0 1 any_flag 3 0 none }

abbrev pub P8 : Hand
P8 = record { board = T; question = judging 1 1 any_flag 4 1 none }

abbrev pub P9 : Hand
P9 = record { board = fresh; question = limit 0 5 }

abbrev pub P10_into : Hand
P10_into = record { board = crowded; question = limit 0 1 }

abbrev pub P10_elsewhere : Hand
P10_elsewhere = record { board = crowded; question = limit 1 2 }

abbrev pub P11_safe : Hand
P11_safe = record { board = laid (2 ∷ 1 ∷ 2 ∷ 2 ∷ []); question = safely three true }

abbrev pub P11_spades : Hand
P11_spades = record { board = laid (2 ∷ 1 ∷ 2 ∷ 1 ∷ []); question = safely three false }

abbrev pub P11_diamonds : Hand
P11_diamonds = record { board = laid (2 ∷ 0 ∷ 2 ∷ 2 ∷ []); question = safely three false }

unfoldable pub hands : List Hand
hands = P1 ∷ P2 ∷ P3 ∷ P4 ∷ P4_partial ∷ P5 ∷ P6 ∷ P7 ∷ P8 ∷ P9 ∷ P10_into ∷ P10_elsewhere ∷ P11_safe ∷ P11_spades ∷ P11_diamonds ∷ []
