-- The search, asked from C: all that `solve` hands back and leaves, with pops and moves behind pointers.
use Rattle.std.specs.Prelude.{cond, List, ℕ, eqb, length}
use Rattle.solver.specs.Searched.{Outcome, refused_with, searched}
use Rattle.crossing.specs.Wire.{board_room, board_in}
use Rattle.crossing.specs.Numbers.{flag, is_answer}

-- what a call leaves, part by part
abbrev pub leaves : ℕ → ℕ → ℕ → List ℕ → List ℕ → List ℕ → List ℕ → List ℕ → Outcome
leaves number pops moves nodes heap keys costs list =
    record { number = number; pops = pops; moves = moves; nodes = nodes; heap = heap; keys = keys; costs = costs; list = list }

-- an answer tells its pops and moves; behind the pointers of a refusal stays what was there
abbrev pub pointed : Outcome → ℕ → ℕ → Outcome
pointed o pops moves =
    leaves o.number (cond (is_answer o.number) o.pops pops) (cond (is_answer o.number) o.moves moves) o.nodes o.heap o.keys o.costs o.list

module _ (nodes heap keys costs list : List ℕ) where
  -- the search on the board that some bytes are: 12 for any other number of bytes
  unfoldable pub judge_left : ℕ → ℕ → List ℕ → ℕ → ℕ → Outcome
  judge_left pops moves board budget partial =
      pointed
      (cond (eqb (length board) board_room) (searched nodes heap keys costs list (board_in board) budget (flag partial)) (refused_with nodes heap keys costs list 12))
      pops
      moves
