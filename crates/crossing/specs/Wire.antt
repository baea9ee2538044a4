-- A board as it crosses to C: 432 bytes.
use Rattle.std.specs.Prelude.{List, ◌++◌, ℕ, take, drop}
use Rattle.board.specs.declared.Board.{Board}
use Rattle.board.specs.Record.{laid, tableau_room}

-- what a board takes
abbrev pub board_room : ℕ
board_room = 432

-- the board of some bytes: four cells, four foundation counts, eight column counts, 416 codes
unfoldable pub board_in : List ℕ → Board
board_in bytes =
    laid (take 4 bytes) (take 4 (drop 4 bytes)) (take 8 (drop 8 bytes)) (take tableau_room (drop 16 bytes))

-- the bytes of a board
unfoldable pub bytes_of : Board → List ℕ
bytes_of b = b.cells ++ (b.foundation ++ (b.counts ++ b.tableau))
