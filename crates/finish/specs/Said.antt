-- What is said of a search: SCOPE.md's number of each case, what a caller is told, and the moves of the list that goes with it.
use Rattle.std.specs.Prelude.{List, [], ℕ, Result, Ok, Err}
use Rattle.board.specs.Refusal.{number_of}
use Rattle.board.specs.declared.Refusal.{Refusal}
use Rattle.moves.specs.declared.Move.{Move}
use Rattle.search.specs.Solve.{Perhaps, none, some}
use Rattle.finish.specs.declared.Said.{Said}
use Rattle.finish.specs.declared.Said.TheVariants.{Won, BestAtLimit, BestExhausted, Limit, Exhausted, BestIsWon, OutOfNodes}
use Rattle.finish.specs.declared.Judged.{Judged}

-- SCOPE.md's number of each case
abbrev pub said_number : Said → ℕ
said_number Won = 0
said_number BestAtLimit = 1
said_number BestExhausted = 2
said_number Limit = 3
said_number Exhausted = 4
said_number BestIsWon = 5
said_number OutOfNodes = 23

-- SCOPE.md's number of an answer, or of why there is none
abbrev pub number_said : Result Said Refusal → ℕ
number_said (Ok said) = said_number said
number_said (Err why) = number_of why

-- what a caller of the search is told: a number, the pops, and how many moves the list has
pub record Told : Type 0 where
  pub number : ℕ
  pub pops : ℕ
  pub moves : ℕ

-- an answer, or SCOPE.md's number of a refusal, for which nothing was counted
abbrev pub told : Result Judged Refusal → Told
told (Ok j) = record { number = said_number j.said; pops = j.pops; moves = j.moves }
told (Err why) = record { number = number_of why; pops = 0; moves = 0 }

-- the moves of a list, if there is one
abbrev pub moves_of : Perhaps (List Move) → List Move
moves_of none = []
moves_of (some l) = l
