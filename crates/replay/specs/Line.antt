-- Replaying a line: its records one after the other, up to the first bad one.
use Rattle.std.specs.Prelude.{Bool, ◌&&◌, List, [], ◌∷◌, ℕ, suc, ◌+◌, ◌*◌, ◌/◌, ◌%◌, eqb, leb, length, take, drop}
use Rattle.base.specs.Words.{listed}
use Rattle.base.specs.Answer.{Answer, given, refused, unless}
use Rattle.board.specs.Verdict.{Verdict, fine, after}
use Rattle.board.specs.Record.{examined}
use Rattle.board.specs.declared.Board.{Board}
use Rattle.replay.specs.Step.{stepped}
use Rattle.moves.specs.Written.{list_room}

-- how a replay ends: fine or the first refusal, how many moves were played (so the place of the bad one), the board then
pub record Ending : Type 0 where
  pub verdict : Verdict
  pub moves : ℕ
  pub board : Board

-- refused before any move
abbrev pub stopped : Board → ℕ → Ending
stopped b n = record { verdict = refused n; moves = 0; board = b }

-- one move was played before
abbrev pub one_more : Ending → Ending
one_more e = record { verdict = e.verdict; moves = suc e.moves; board = e.board }

-- on from the board that a move gives, or stopped on the board before it
abbrev pub go_on : Board → Answer Board → (Board → Ending) → Ending
go_on b (given c) rest = one_more (rest c)
go_on b (refused n) rest = stopped b n

-- a line of records from a board
unfoldable pub line_from : Board → List (List ℕ) → Ending
line_from b [] = record { verdict = fine; moves = 0; board = b }
line_from b (r ∷ rs) = go_on b (stepped b r) (λ c. line_from c rs)

-- the records in some bytes, five each
unfoldable pub records_in : List ℕ → List (List ℕ)
records_in bytes = listed (length bytes / 5) (λ k. take 5 (drop (k * 5) bytes))

-- a list of moves: at most 200 records and nothing after them
unfoldable pub is_line : List ℕ → Bool
is_line bytes = leb (length bytes) list_room && eqb (length bytes % 5) 0

-- on if all is fine, else stopped
abbrev pub if_fine : Verdict → Board → Ending → Ending
if_fine (given u) b e = e
if_fine (refused n) b e = stopped b n

-- 12 to 15 if the board is not fine, then 31 if the list is none, then the number of the first bad move
unfoldable pub replayed : Board → List ℕ → Ending
replayed b bytes = if_fine (after (examined b) (unless (is_line bytes) 31 fine)) b (line_from b (records_in bytes))

-- ---- what the laws speak of

-- a second line from where a first one ended well; a first that was stopped stays so
abbrev pub continued : Verdict → Ending → Ending → Ending
continued (given u) e f = record { verdict = f.verdict; moves = e.moves + f.moves; board = f.board }
continued (refused n) e f = e
