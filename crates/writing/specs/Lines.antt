-- A list of moves written from a table.
use Rattle.std.specs.Prelude.{◌≡◌, true, cond, List, [], ◌∷◌, ℕ, suc}
use Rattle.board.specs.Table.{Table}
use Rattle.moves.specs.Play.{after_move}
use Rattle.moves.specs.declared.Move.{Move}
use Rattle.notation.specs.Jot.{line_text}
use Rattle.sense.specs.Meant.{writable, jot_of}
use Rattle.notation.specs.declared.Jot.{Jot}

-- each move on the table that those before it leave
unfoldable pub jots_of : Table → List Move → List Jot
jots_of t [] = []
jots_of t (m ∷ ms) = jot_of t m ∷ jots_of (after_move t m) ms

-- the text of a list of moves
unfoldable pub text_of : Table → List Move → List ℕ
text_of t ms = line_text (jots_of t ms)

-- how many moves come before the first that cannot be written
unfoldable pub writable_first : List Move → ℕ
writable_first [] = 0
writable_first (m ∷ ms) = cond (writable m) (suc (writable_first ms)) 0

-- ---- what the laws speak of

-- each can be written
abbrev pub Writable : List Move → Type 0
Writable [] = Unit {0}
Writable (m ∷ ms) = (writable m ≡ true) × Writable ms
