-- A list of moves played on a table, one after the other.
use Rattle.std.specs.Prelude.{◌≡◌, true, List, [], ◌∷◌, ℕ}
use Rattle.board.specs.Table.{Table}
use Rattle.moves.specs.Move.{sayable}
use Rattle.moves.specs.Record.{record_of}
use Rattle.moves.specs.Play.{allowed, after_move}
use Rattle.moves.specs.declared.Move.{Move}

-- the table after them
unfoldable pub after_moves : Table → List Move → Table
after_moves t [] = t
after_moves t (m ∷ ms) = after_moves (after_move t m) ms

-- each can be said and is allowed when its turn comes
abbrev pub Legal : Table → List Move → Type 0
Legal t [] = Unit {0}
Legal t (m ∷ ms) = (sayable m ≡ true) × ((allowed t m ≡ true) × Legal (after_move t m) ms)

-- their records
unfoldable pub records_of : List Move → List (List ℕ)
records_of [] = []
records_of (m ∷ ms) = record_of m ∷ records_of ms
