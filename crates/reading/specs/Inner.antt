-- What the inner functions of reading hand each other.
use Rattle.board.specs.declared.Refusal.{Refusal}
use Rattle.std.specs.Prelude.{◌≡◌, cond, List, [], ◌∷◌, ℕ, ◌+◌, ◌<◌, ◌≤◌, ltb, length, drop, Option, Some, None, Result, Err, Ok}
use Rattle.base.specs.Answer.{Answer, given, refused}
use Rattle.board.specs.Record.{shown}
use Rattle.board.specs.Refusal.{number_of}
use Rattle.board.specs.Inner.{Sound}
use Rattle.board.specs.declared.Board.{Board}
use Rattle.moves.specs.Play.{after_move}
use Rattle.moves.specs.Written.{written, Adds}
use Rattle.moves.specs.declared.Move.{Move}
use Rattle.notation.specs.Form.{Reading, jots, wrong, ending, read_from}
use Rattle.sense.specs.Outcome.{Outcome, gives, refuses, refuses_at, most_moves, counted, line_told}
use Rattle.reading.specs.Lines.{ruled}
use Rattle.reading.specs.Asked.{list_after}
use Rattle.notation.specs.declared.Jot.{Jot}
use Rattle.notation.specs.declared.Due.{Due}
use Rattle.notation.specs.declared.Due.TheVariants.{Source}
use Rattle.sense.specs.declared.LineError.{LineError}
use Rattle.sense.specs.declared.LineError.TheVariants as line

-- ---- a written move on a board

-- the move that is meant is played from board b to board c, and its record written after n others
pub record Took (b c : Board) (a : Answer Move) (old new : List ℕ) (n : ℕ) : Type 0 where
  pub move : Move
  pub rules : ruled (shown b) a ≡ given move
  pub shows : shown c ≡ after_move (shown b) move
  pub sound : Sound c
  pub adds : Adds old new n (n + 1) (move ∷ [])

-- it is, or it is refused
abbrev pub TookOrNot : Board → Board → Answer Move → List ℕ → List ℕ → ℕ → Result (Unit {0}) Refusal → Type 0
TookOrNot b c a old new n (Ok u) = Took b c a old new n
TookOrNot b c a old new n (Err why) = ruled (shown b) a ≡ refused (number_of why)

pub record Takes (b c : Board) (a : Answer Move) (old new : List ℕ) (n : ℕ) (r : Result (Unit {0}) Refusal) : Type 0 where
  pub told : TookOrNot b c a old new n r

-- ---- the written moves of a text, one after the other

-- what is left of a line from the move at a place; nothing past its end
unfoldable pub left_in : List ℕ → ℕ → Reading
left_in text at = cond (ltb at (length text)) (read_from Source at (drop at text)) (jots [])

-- of what is left this is the first, and the others are left from the next place on
pub record CutAt (text : List ℕ) (at : ℕ) (j : Jot) (next : ℕ) : Type 0 where
  pub on : at < next
  pub within : next ≤ length text
  pub first : (js : List Jot) → left_in text at ≡ jots js → (ks : List Jot) × ((js ≡ j ∷ ks) × (left_in text next ≡ jots ks))

-- what is left is no line
pub record NoLine (text : List ℕ) (at : ℕ) : Type 0 where
  pub never : (js : List Jot) → left_in text at ≡ jots js → ⊥

abbrev pub CutOrNot : List ℕ → ℕ → Option (Jot × ℕ) → Type 0
CutOrNot text at (Some (j, next)) = CutAt text at j next
CutOrNot text at None = NoLine text at

pub record Cuts (text : List ℕ) (at : ℕ) (r : Option (Jot × ℕ)) : Type 0 where
  pub told : CutOrNot text at r

-- the text ends where something is due
abbrev pub EndOrNot : Due → ℕ → Option (Jot × ℕ) → Type 0
EndOrNot d end (Some (j, next)) = (next ≡ end) × (ending d end ≡ jots (j ∷ []))
EndOrNot d end None = ending d end ≡ wrong end

pub record EndCuts (d : Due) (end : ℕ) (r : Option (Jot × ℕ)) : Type 0 where
  pub told : EndOrNot d end r

-- ---- a whole line

-- a text of at most 200 moves
abbrev pub Few : Reading → Type 0
Few (jots js) = length js ≤ most_moves
Few (wrong p) = ⊥

-- the room that a line's records were written to; a refusal leaves what it will
abbrev pub LeftBy : Outcome (List Move) → List ℕ → List ℕ → Type 0
LeftBy (gives ms) old new = new ≡ written old 0 ms
LeftBy (refuses n) old new = Unit {0}
LeftBy (refuses_at n p) old new = Unit {0}

-- the answer and the records of a line
pub record ReadTo (o : Outcome (List Move)) (old new : List ℕ) (r : Result ℕ LineError) : Type 0 where
  pub told : line_told r ≡ counted o
  pub left : LeftBy o old new

-- how many records go into lent room: none by a refusal
abbrev pub kept : Result ℕ LineError → ℕ
kept (Ok n) = n
kept (Err (line.Refused why)) = 0
kept (Err (line.At why p)) = 0

-- the answer, and the records in lent room; a refusal changes nothing
pub record ReadInto (o : Outcome (List Move)) (old new : List ℕ) (r : Result ℕ LineError) : Type 0 where
  pub told : line_told r ≡ counted o
  pub room : new ≡ list_after o old
