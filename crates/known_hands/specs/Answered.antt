-- A call of the search, and a score that was asked for, are answered as a hand says.
use Rattle.board.specs.Refusal.{answered}
use Rattle.board.specs.declared.Refusal.{Refusal}
use Rattle.std.specs.Prelude.{◌≡◌, true, List, ℕ, ℤ, Result}
use Rattle.base.specs.Answer.{given}
use Rattle.board.specs.declared.Board.{Board}
use Rattle.moves.specs.declared.Move.{Move}
use Rattle.moves.specs.Written.{written}
use Rattle.search.specs.Solve.{Perhaps}
use Rattle.finish.specs.Said.{moves_of}
use Rattle.solver.specs.Told.{Call, number}
use Rattle.known_hands.specs.Hands.{same_score, same_list}

-- number n, p pops, and a list with the bytes l at the start of the list buffer
pub record Answers {b : Board} (c : Call b) (n p : ℕ) (l : Perhaps (List ℕ)) : Type 0 where
  pub answer : number c ≡ n
  pub pops : c.result.pops ≡ p
  pub moves : Perhaps (List Move)
  pub said : same_list moves l ≡ true
  pub list : c.list_after ≡ written c.list 0 (moves_of moves)

-- a score is told, and it is x
pub record Scored (r : Result ℤ Refusal) (x : ℤ) : Type 0 where
  pub value : ℤ
  pub told : answered r ≡ given value
  pub same : same_score value x ≡ true
