-- The search as it is asked for: 12 to 15, 20, 21, 22, or its answer with its list; the scratch is left all zero.
use Rattle.std.specs.Prelude.{Bool, List, ℕ, leb, length}
use Rattle.base.specs.Answer.{given, refused, unless}
use Rattle.board.specs.Verdict.{Verdict, fine, after}
use Rattle.board.specs.Record.{examined, shown}
use Rattle.board.specs.declared.Board.{Board}
use Rattle.moves.specs.Written.{written, list_room}
use Rattle.base.specs.Blank.{blank}
use Rattle.search.specs.Freecell.{freecell, judge}
use Rattle.search.specs.Solve.{Answer}
use Rattle.finish.specs.Said.{Told, moves_of}
use Rattle.solver.specs.Capacity.{capacity_of}

-- all that a search hands back and leaves: its number, its pops, the moves of its list, and every lent byte
pub record Outcome : Type 0 where
  pub number : ℕ
  pub pops : ℕ
  pub moves : ℕ
  pub nodes : List ℕ
  pub heap : List ℕ
  pub keys : List ℕ
  pub costs : List ℕ
  pub list : List ℕ

abbrev pub outcome : Told → List ℕ → List ℕ → List ℕ → List ℕ → List ℕ → Outcome
outcome r nodes heap keys costs list =
    record { number = r.number; pops = r.pops; moves = r.moves; nodes = nodes; heap = heap; keys = keys; costs = costs; list = list }

-- the largest budget
abbrev pub most_pops : ℕ
most_pops = 1000000

-- why a search is refused, in this order
unfoldable pub accepted : Board → ℕ → ℕ → ℕ → Verdict
accepted b budget capacity lent =
    after (examined b) (unless (leb budget most_pops) 20 (unless (leb list_room lent) 21 (unless (leb 1 capacity) 22 fine)))

module _ (nodes heap keys costs list : List ℕ) where
  -- a refusal changes nothing
  abbrev pub refused_with : ℕ → Outcome
  refused_with n = record { number = n; pops = 0; moves = 0; nodes = nodes; heap = heap; keys = keys; costs = costs; list = list }

  -- an answer leaves the scratch all zero; its list, if there is one, is written from the start of the list buffer
  unfoldable pub answered_with : Answer freecell → Outcome
  answered_with a =
      record {
        number = a.number;
        pops = a.pops;
        moves = length (moves_of a.list);
        nodes = blank nodes;
        heap = blank heap;
        keys = blank keys;
        costs = blank costs;
        list = written list 0 (moves_of a.list);
      }

  abbrev pub searched_by : Verdict → Board → ℕ → Bool → Outcome
  searched_by (refused n) b budget partial = refused_with n
  searched_by (given u) b budget partial =
      answered_with (judge (shown b) budget (capacity_of (length nodes) (length heap) (length keys) (length costs)) partial)

  unfoldable pub searched : Board → ℕ → Bool → Outcome
  searched b budget partial =
      searched_by (accepted b budget (capacity_of (length nodes) (length heap) (length keys) (length costs)) (length list)) b budget partial
