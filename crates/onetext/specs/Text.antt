-- What `oneboard` prints for an image, in SCOPE.md's words.
use Rattle.std.specs.Prelude.{false, cond, List, [], ◌∷◌, ◌++◌, ℕ, leb, length}
use Rattle.base.specs.Answer.{Answer, given, refused}
use Rattle.board.specs.Table.{Table}
use Rattle.board.specs.Record.{shown}
use Rattle.board.specs.declared.Board.{Board}
use Rattle.intake.specs.Image.{image_read}
use Rattle.moves.specs.Record.{record_of}
use Rattle.moves.specs.declared.Move.{Move}
use Rattle.features.specs.Features.{features_of}
use Rattle.score.specs.Token.{decimal, token_of}
use Rattle.search.specs.Freecell.{freecell, judge}
use Rattle.search.specs.Solve as solve
use Rattle.finish.specs.Said.{moves_of}

-- what follows a number on its line: a space and the next number, or the newline
unfoldable pub line_end : List ℕ → List ℕ
line_end [] = 10 ∷ []
line_end (n ∷ ns) = ((32 ∷ []) ++ decimal n) ++ line_end ns

-- a line of numbers: one space between them, a newline after the last
unfoldable pub line : List ℕ → List ℕ
line [] = 10 ∷ []
line (n ∷ ns) = decimal n ++ line_end ns

-- a line a move: kind, from, to, count, card
unfoldable pub move_lines : List Move → List ℕ
move_lines [] = []
move_lines (m ∷ ms) = line (record_of m) ++ move_lines ms

-- answer, pops, number of moves; then the moves, where there is a list
unfoldable pub answer_text : solve.Answer freecell → List ℕ
answer_text a = line (a.number ∷ a.pops ∷ length (moves_of a.list) ∷ []) ++ move_lines (moves_of a.list)

-- the token on a line, then the answer of a search with budget 100, capacity 64, no partial
unfoldable pub hand_text : Table → List ℕ
hand_text t = token_of (features_of t) ++ ((10 ∷ []) ++ answer_text (judge t 100 64 false))

-- a refusal of the image is its number alone
abbrev pub read_text : Answer Board → List ℕ
read_text (given b) = hand_text (shown b)
read_text (refused n) = line (n ∷ [])

-- more than 1,024 bytes are 10
unfoldable pub text : List ℕ → List ℕ
text image = cond (leb (length image) 1024) (read_text (image_read image)) (line (10 ∷ []))
