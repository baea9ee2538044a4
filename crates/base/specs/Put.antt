-- Bytes written into lent room.
use Rattle.std.specs.Prelude.{◌≡◌, List, ◌++◌, ℕ, ◌+◌, length, take, drop}

-- lent room with some bytes written at its start, and every other byte as it was
unfoldable pub over : List ℕ → List ℕ → List ℕ
over new old = new ++ drop (length new) old

-- an inner form puts some bytes at a place: the room, and the place after them
pub record Puts (old new : List ℕ) (at r : ℕ) (s : List ℕ) : Type 0 where
  pub room : new ≡ take at old ++ (s ++ drop (at + length s) old)
  pub after : r ≡ at + length s
