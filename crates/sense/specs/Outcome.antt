-- What comes of a line, read or written: what was asked for, a refusal, or a refusal that tells a place too.
use Rattle.std.specs.Prelude.{List, ℕ, length, Result, Ok, Err}
use Rattle.base.specs.Answer.{given, refused}
use Rattle.board.specs.Verdict.{Verdict}
use Rattle.board.specs.Refusal.{number_of}
use Rattle.sense.specs.declared.LineError.{LineError}
use Rattle.sense.specs.declared.LineError.TheVariants.{Refused, At}

pub data Outcome (A : Type 0) : Type 0 where
  gives : A → Outcome A
  refuses : ℕ → Outcome A
  refuses_at : ℕ → ℕ → Outcome A

-- on if all is fine
abbrev pub checked : {A : Type 0} → Verdict → Outcome A → Outcome A
checked (given u) o = o
checked (refused n) o = refuses n

-- on if a verdict is fine, else refused at that place
abbrev pub checked_at : {A : Type 0} → Verdict → ℕ → Outcome A → Outcome A
checked_at (given u) p o = o
checked_at (refused n) p o = refuses_at n p

-- how many moves were read, or bytes written
abbrev pub counted : {A : Type 0} → Outcome (List A) → Outcome ℕ
counted (gives l) = gives (length l)
counted (refuses n) = refuses n
counted (refuses_at n p) = refuses_at n p

-- what each case of the code's answer means
abbrev pub line_told : Result ℕ LineError → Outcome ℕ
line_told (Ok n) = gives n
line_told (Err (Refused why)) = refuses (number_of why)
line_told (Err (At why p)) = refuses_at (number_of why) p

-- the most moves of a line
abbrev pub most_moves : ℕ
most_moves = 200
