-- A line of moves read from a table.
use Rattle.std.specs.Prelude.{List, [], ◌∷◌, ℕ, suc, leb, length}
use Rattle.base.specs.Answer.{Answer, given, refused, unless}
use Rattle.board.specs.Table.{Table}
use Rattle.board.specs.Verdict.{fine, after}
use Rattle.moves.specs.Play.{after_move}
use Rattle.moves.specs.Causes.{ruling}
use Rattle.moves.specs.declared.Move.{Move}
use Rattle.notation.specs.Form.{Reading, jots, wrong, line_in}
use Rattle.sense.specs.Meant.{meant}
use Rattle.sense.specs.Outcome.{Outcome, gives, refuses, refuses_at, checked, most_moves}
use Rattle.notation.specs.declared.Jot.{Jot}

-- a written move that has its meaning and may be played
abbrev pub ruled : Table → Answer Move → Answer Move
ruled t (given m) = after (ruling t m) (given m)
ruled t (refused n) = refused n

-- one move before
abbrev pub first : Move → Outcome (List Move) → Outcome (List Move)
first m (gives ms) = gives (m ∷ ms)
first m (refuses n) = refuses n
first m (refuses_at n p) = refuses_at n p

-- on from the move at a place, or stopped there
abbrev pub read_on : ℕ → Answer Move → (Move → Outcome (List Move)) → Outcome (List Move)
read_on at (given m) rest = first m (rest m)
read_on at (refused n) rest = refuses_at n at

-- each move on the table that those before it leave; the first has the place `at`
unfoldable pub moves_from : Table → ℕ → List Jot → Outcome (List Move)
moves_from t at [] = gives []
moves_from t at (j ∷ js) = read_on at (ruled t (meant t j)) (λ m. moves_from (after_move t m) (suc at) js)

-- 42 with the place of the first wrong sign, 31 past 200 moves, then the number of the first bad move with its place
abbrev pub read_by : Table → Reading → Outcome (List Move)
read_by t (wrong p) = refuses_at 42 p
read_by t (jots js) = checked (unless (leb (length js) most_moves) 31 fine) (moves_from t 0 js)

unfoldable pub line_read : Table → List ℕ → Outcome (List Move)
line_read t text = read_by t (line_in text)
