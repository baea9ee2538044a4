-- The board record: what it shows, when its shape is good, and the record of a table.
use Rattle.std.specs.Prelude.{Bool, ◌&&◌, List, [], ℕ, ◌+◌, ◌-◌, ◌*◌, ◌/◌, ◌%◌, length, get_or, take, drop, leb}
use Rattle.base.specs.Words.{every, all, listed}
use Rattle.base.specs.Answer.{unless}
use Rattle.board.specs.Table.{Table}
use Rattle.board.specs.Verdict.{Verdict, verdict_on}
use Rattle.board.specs.declared.Board.{Board}

-- the room that a record has for each column
abbrev pub room : ℕ
room = 52

-- and for all eight
abbrev pub tableau_room : ℕ
tableau_room = 8 * room

-- a record of these four parts
abbrev pub laid : List ℕ → List ℕ → List ℕ → List ℕ → Board
laid cells foundation counts tableau = record { cells = cells; foundation = foundation; counts = counts; tableau = tableau }

-- a count of at most n
abbrev pub at_most : ℕ → ℕ → Bool
at_most n x = leb x n

abbrev pub is_zero : ℕ → Bool
is_zero = at_most 0

-- column i: the first codes of its room, as many as its count says
unfoldable pub column_at : List ℕ → List ℕ → ℕ → List ℕ
column_at counts tableau i = take (get_or counts i 0) (drop (i * room) tableau)

-- the rest of its room
unfoldable pub spare_at : List ℕ → List ℕ → ℕ → List ℕ
spare_at counts tableau i = take (room - get_or counts i 0) (drop (i * room + get_or counts i 0) tableau)

-- the table that a record shows
unfoldable pub shown : Board → Table
shown b = record { cells = b.cells; foundation = b.foundation; columns = listed 8 (column_at b.counts b.tableau) }

-- columns within their room, foundations within 13, unused room zero
unfoldable pub shapely : Board → Bool
shapely b =
    all (at_most room) b.counts && (all (at_most 13) b.foundation && every 8 (λ i. all is_zero (spare_at b.counts b.tableau i)))

-- the first of 12, 13, 14, 15 that holds, or fine
unfoldable pub examined : Board → Verdict
examined b = unless (shapely b) 12 (verdict_on (shown b))

-- the record of a table: place p of the flat array is row p mod room of column p div room, and 0 where that column has no such row
unfoldable pub board_of : Table → Board
board_of t =
    record {
      cells = t.cells;
      foundation = t.foundation;
      counts = listed 8 (λ i. length (get_or t.columns i []));
      tableau = listed tableau_room (λ p. get_or (get_or t.columns (p / room) []) (p % room) 0);
    }
