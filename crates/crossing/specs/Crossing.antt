-- What every call from C has in common: a number handed back, and what stands then in the places that were lent.
use Rattle.std.specs.Prelude.{List, ℕ, eqb, leb, length}
use Rattle.base.specs.Answer.{Answer, given, refused, unless}
use Rattle.board.specs.declared.Board.{Board}
use Rattle.crossing.specs.Wire.{board_room, board_in}

-- all that a call leaves
pub record Left (A : Type 0) : Type 0 where
  pub number : ℕ
  pub places : A

-- the number, and those places
abbrev pub left : {A : Type 0} → ℕ → A → Left A
left n p = record { number = n; places = p }

-- 0, or the number of a refusal
abbrev pub told : {A : Type 0} → Answer A → ℕ
told (given a) = 0
told (refused n) = n

-- an answer leaves what f makes of it; a refusal is its number, and the lent places stay as they were
abbrev pub crossed : {A B : Type 0} → Answer A → B → (A → Left B) → Left B
crossed (given a) old f = f a
crossed (refused n) old f = left n old

-- a question about the board that some bytes are: 12 for any other number of bytes
abbrev pub asked : {A : Type 0} → List ℕ → (Board → Answer A) → Answer A
asked bytes question = unless (eqb (length bytes) board_room) 12 (question (board_in bytes))

-- an answer that needs so much of the lent room: 21 for less, after every other refusal
abbrev pub within : {A : Type 0} → ℕ → ℕ → Answer A → Answer A
within room lent (given a) = unless (leb room lent) 21 (given a)
within room lent (refused n) = refused n
