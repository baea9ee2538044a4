-- The child that a candidate makes: the candidate, and the whole safe chain after it.
use Rattle.std.specs.Prelude.{List, ◌∷◌}
use Rattle.board.specs.Table.{Table}
use Rattle.moves.specs.Play.{after_move}
use Rattle.moves.specs.declared.Move.{Move}
use Rattle.replay.specs.Played.{after_moves}
use Rattle.safe.specs.Chain.{chain}

-- the moves of the child
unfoldable pub child_moves : Table → Move → List Move
child_moves t m = m ∷ chain (after_move t m)

-- the table that it reaches
unfoldable pub child_table : Table → Move → Table
child_table t m = after_moves t (child_moves t m)
