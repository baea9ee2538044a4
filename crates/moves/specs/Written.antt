-- Moves written into lent room as their records.
use Rattle.std.specs.Prelude.{◌≡◌, List, [], ◌∷◌, ◌++◌, ℕ, ◌+◌, ◌*◌, length, take, drop}
use Rattle.moves.specs.Record.{record_of}
use Rattle.moves.specs.declared.Move.{Move}

-- the room of a list: 200 records of five bytes
abbrev pub list_room : ℕ
list_room = 1000

-- the records of some moves, one after the other
unfoldable pub bytes_of : List Move → List ℕ
bytes_of [] = []
bytes_of (m ∷ ms) = record_of m ++ bytes_of ms

-- lent room with these moves written after its first n records, and every other byte as it was
unfoldable pub written : List ℕ → ℕ → List Move → List ℕ
written old n ms = take (n * 5) old ++ (bytes_of ms ++ drop ((n + length ms) * 5) old)

-- moves are added after n records: the room, and the number of records then
pub record Adds (old new : List ℕ) (n r : ℕ) (ms : List Move) : Type 0 where
  pub room : new ≡ written old n ms
  pub many : r ≡ n + length ms
