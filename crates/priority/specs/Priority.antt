-- The local priority of a move: a signed number, what adds to it less what takes away.
use Rattle.std.specs.Prelude.{ℕ, ◌+◌, ◌-◌, ◌*◌, ℤ}
use Rattle.std.proofs.Math.IntN.{sub_ℕ}
use Rattle.board.specs.Table.{Table}
use Rattle.moves.specs.Play.{after_move}
use Rattle.moves.specs.declared.Move.{Move}
use Rattle.generate.specs.Found.{way_of}
use Rattle.generate.specs.declared.Way.{Way}
use Rattle.generate.specs.declared.Way.TheVariants.{ColumnToColumn, ColumnToHome, ColumnToCell, CellToColumn, CellToHome, HomeToColumn}
use Rattle.score.specs.Weights.{LOOKAHEAD_FOUNDATION_OPTIONS_WEIGHT, LOOKAHEAD_EMPTY_COLUMNS_WEIGHT, LOOKAHEAD_FREE_USED_PENALTY, LOOKAHEAD_LOW_BLOCKED_PENALTY, PRIORITY_BASE_TO_FOUNDATION, PRIORITY_BASE_FREE_TO_TABLEAU, PRIORITY_BASE_TABLEAU_TO_TABLEAU, PRIORITY_BASE_TABLEAU_TO_FREE, PRIORITY_BASE_FROM_FOUNDATION, PRIORITY_FOUNDATION_GAIN_WEIGHT, PRIORITY_OPTIONS_GAIN_WEIGHT, PRIORITY_EMPTY_COL_GAIN_WEIGHT, PRIORITY_FREE_FREED_WEIGHT, PRIORITY_RUN_GAIN_WEIGHT, PRIORITY_LOW_UNBLOCK_WEIGHT}
use Rattle.features.specs.Features.{features_of}
use Rattle.features.specs.declared.Features.{Features}

-- ---- the base of a kind

abbrev pub base_adds : Way → ℕ
base_adds ColumnToColumn = PRIORITY_BASE_TABLEAU_TO_TABLEAU
base_adds ColumnToHome = PRIORITY_BASE_TO_FOUNDATION
base_adds ColumnToCell = 0
base_adds CellToColumn = PRIORITY_BASE_FREE_TO_TABLEAU
base_adds CellToHome = PRIORITY_BASE_TO_FOUNDATION
base_adds HomeToColumn = 0

abbrev pub base_takes : Way → ℕ
base_takes ColumnToColumn = 0
base_takes ColumnToHome = 0
base_takes ColumnToCell = PRIORITY_BASE_TABLEAU_TO_FREE
base_takes CellToColumn = 0
base_takes CellToHome = 0
base_takes HomeToColumn = PRIORITY_BASE_FROM_FOUNDATION

-- ---- gains from before to after; a cell that is filled adds (the Rust's `free_freed` is after less before)

unfoldable pub priority_adds : Way → Features → Features → ℕ
priority_adds w before after =
    base_adds w
    + after.home * PRIORITY_FOUNDATION_GAIN_WEIGHT
    + after.immediate * PRIORITY_OPTIONS_GAIN_WEIGHT
    + after.empty * PRIORITY_EMPTY_COL_GAIN_WEIGHT
    + after.used * PRIORITY_FREE_FREED_WEIGHT
    + after.longest * PRIORITY_RUN_GAIN_WEIGHT
    + before.blocked * PRIORITY_LOW_UNBLOCK_WEIGHT
    + after.immediate * LOOKAHEAD_FOUNDATION_OPTIONS_WEIGHT
    + after.empty * LOOKAHEAD_EMPTY_COLUMNS_WEIGHT

unfoldable pub priority_takes : Way → Features → Features → ℕ
priority_takes w before after =
    base_takes w
    + before.home * PRIORITY_FOUNDATION_GAIN_WEIGHT
    + before.immediate * PRIORITY_OPTIONS_GAIN_WEIGHT
    + before.empty * PRIORITY_EMPTY_COL_GAIN_WEIGHT
    + before.used * PRIORITY_FREE_FREED_WEIGHT
    + before.longest * PRIORITY_RUN_GAIN_WEIGHT
    + after.blocked * PRIORITY_LOW_UNBLOCK_WEIGHT
    + after.used * LOOKAHEAD_FREE_USED_PENALTY
    + after.blocked * LOOKAHEAD_LOW_BLOCKED_PENALTY

unfoldable pub priority : Way → Features → Features → ℤ
priority w before after = sub_ℕ (priority_adds w before after) (priority_takes w before after)

-- the same as a natural number, raised so that no well-formed board goes below 0
abbrev pub priority_bias : ℕ
priority_bias = 157566

unfoldable pub priority_key : Way → Features → Features → ℕ
priority_key w before after = priority_adds w before after + priority_bias - priority_takes w before after

-- of a move on a table
unfoldable pub priority_on : Table → Move → ℤ
priority_on t m = priority (way_of m) (features_of t) (features_of (after_move t m))
