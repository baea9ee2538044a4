-- The calls that write moves or a text at the start of lent room and tell how many; every other byte stays.
use Rattle.std.specs.Prelude.{cond, List, ℕ, eqb, length}
use Rattle.base.specs.Answer.{Answer, given, refused}
use Rattle.board.specs.Table.{Table}
use Rattle.board.specs.Verdict.{after}
use Rattle.board.specs.Record.{examined, shown}
use Rattle.moves.specs.declared.Move.{Move}
use Rattle.generate.specs.Found.{found}
use Rattle.moves.specs.Written.{written}
use Rattle.generate.specs.Asked.{record_room}
use Rattle.generate.specs.declared.Way.{Way}
use Rattle.generate.specs.declared.Way.TheVariants.{ColumnToColumn, ColumnToHome, ColumnToCell, CellToColumn, CellToHome, HomeToColumn}
use Rattle.features.specs.Features.{features_of}
use Rattle.score.specs.Token.{token_of}
use Rattle.base.specs.Put.{over}
use Rattle.score.specs.Asked.{token_room}
use Rattle.candidates.specs.Candidates.{candidates}
use Rattle.crossing.specs.Crossing.{Left, left, crossed, asked, within}

-- the records of some moves, and their number
unfoldable pub list_left : Answer (List Move) → List ℕ → ℕ → Left (List ℕ × ℕ)
list_left a room n = crossed (within record_room (length room) a) (room, n) (λ ms. left 0 (written room 0 ms, length ms))

-- what the search tries on a board, in order
unfoldable pub candidates_left : List ℕ → List ℕ → ℕ → Left (List ℕ × ℕ)
candidates_left board room n = list_left (asked board (λ b. after (examined b) (given (candidates (shown b))))) room n

-- the kinds of a move record: 30 for any other number
unfoldable pub way_asked : ℕ → Answer Way
way_asked kind =
    cond (eqb kind 1) (given ColumnToColumn)
    (cond (eqb kind 2) (given ColumnToHome)
    (cond (eqb kind 3) (given ColumnToCell)
    (cond (eqb kind 4) (given CellToColumn) (cond (eqb kind 5) (given CellToHome) (cond (eqb kind 6) (given HomeToColumn) (refused 30))))))

-- the allowed moves of a kind
abbrev pub found_by : Table → Answer Way → Answer (List Move)
found_by t (given w) = given (found t w)
found_by t (refused n) = refused n

-- 12 to 15, 30 for a kind that is none, then 21
unfoldable pub moves_left : List ℕ → ℕ → List ℕ → ℕ → Left (List ℕ × ℕ)
moves_left board kind room n = list_left (asked board (λ b. after (examined b) (found_by (shown b) (way_asked kind)))) room n

-- a text, and the number of its bytes
unfoldable pub text_left : Answer (List ℕ) → List ℕ → ℕ → Left (List ℕ × ℕ)
text_left a room n = crossed (within token_room (length room) a) (room, n) (λ text. left 0 (over text room, length text))

-- the progress token of a board
unfoldable pub token_left : List ℕ → List ℕ → ℕ → Left (List ℕ × ℕ)
token_left board room n = text_left (asked board (λ b. after (examined b) (given (token_of (features_of (shown b)))))) room n
