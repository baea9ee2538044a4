-- The moves that the search tries on a board, the best first.
use Rattle.std.specs.Prelude.{Bool, cond, not, ◌||◌, List, [], ◌∷◌, ◌++◌, leb, ltb}
use Rattle.std.specs.Int.Signed.{le_z}
use Rattle.board.specs.Table.{Table}
use Rattle.questions.specs.Questions.{home_count}
use Rattle.moves.specs.Play.{after_move}
use Rattle.moves.specs.declared.Move.{Move}
use Rattle.generate.specs.Found.{found}
use Rattle.generate.specs.declared.Way.TheVariants.{ColumnToColumn, ColumnToCell, CellToColumn, HomeToColumn}
use Rattle.score.specs.Weights.{ENDGAME_UNSAFE_FOUNDATION_THRESHOLD}
use Rattle.features.specs.Features.{features_of}
use Rattle.features.specs.declared.Features.{Features}
use Rattle.safe.specs.Safe.{chosen, is_safe, home_moves}
use Rattle.priority.specs.Priority.{priority_on}

-- features change for the better: more can go home at once, fewer low cards are blocked, or a run is longer
unfoldable pub better : Features → Features → Bool
better before after =
    ltb before.immediate after.immediate || (ltb after.blocked before.blocked || ltb before.longest after.longest)

-- a move back from a foundation is worth trying
unfoldable pub worthwhile : Table → Move → Bool
worthwhile t m = better (features_of t) (features_of (after_move t m))

unfoldable pub is_unsafe : Table → Move → Bool
is_unsafe t m = not (is_safe t m)

-- what is tried only near the end
unfoldable pub late_moves : Table → List Move
late_moves t = cond (leb ENDGAME_UNSAFE_FOUNDATION_THRESHOLD (home_count t.foundation)) (chosen (is_unsafe t) (home_moves t)) []

-- safe moves home, moves back from a foundation that are worth it, runs, cells to columns, columns to cells, late moves
unfoldable pub tried : Table → List Move
tried t =
    chosen (is_safe t) (home_moves t)
    ++ (chosen (worthwhile t) (found t HomeToColumn)
    ++ (found t ColumnToColumn ++ (found t CellToColumn ++ (found t ColumnToCell ++ late_moves t))))

-- a move at its place among moves in falling order of priority: before those that are not above it
unfoldable pub ranked : Table → Move → List Move → List Move
ranked t m [] = m ∷ []
ranked t m (y ∷ l) = cond (le_z (priority_on t y) (priority_on t m)) (m ∷ y ∷ l) (y ∷ ranked t m l)

-- the highest priority first; moves of one priority stay in their order
unfoldable pub in_order : Table → List Move → List Move
in_order t [] = []
in_order t (m ∷ ms) = ranked t m (in_order t ms)

unfoldable pub candidates : Table → List Move
candidates t = in_order t (tried t)
