-- The safe chain: the first safe move, again and again.
use Rattle.std.specs.Prelude.{List, [], ◌∷◌, ℕ, zero, suc, None, Some, Option}
use Rattle.board.specs.Table.{Table}
use Rattle.moves.specs.Play.{after_move}
use Rattle.moves.specs.declared.Move.{Move}
use Rattle.safe.specs.Safe.{first_safe}

-- a move and then the rest from the table after it, or nothing
abbrev pub and_on : Table → Option Move → (Table → List Move) → List Move
and_on t (Some m) rest = m ∷ rest (after_move t m)
and_on t None rest = []

-- at most n moves of the chain
unfoldable pub chain_of : ℕ → Table → List Move
chain_of zero t = []
chain_of (suc n) t = and_on t (first_safe t) (chain_of n)

-- the whole chain: 52 cards can go home
unfoldable pub chain : Table → List Move
chain t = chain_of 52 t
