-- The seven features of a board record, one by one.
use mathlib.Core.Path.{◌≡◌}
use Prim.Native.Nat.{ℕ}
use Rattle.base.specs.Words.{listed}
use Rattle.board.specs.Record.{column_at, shown}
use Rattle.board.specs.declared.Board.{Board}
use Rattle.questions.specs.Questions.{home_count, empty_columns}
use Rattle.features.specs.Features.{immediate_on, blocked_on, imbalance_of, cells_used, longest_run, features_of}

pub features_are : (b : Board) {home immediate blocked imbalance used empty longest : ℕ}
    → home ≡ home_count b.foundation → immediate ≡ immediate_on (shown b)
    → blocked ≡ blocked_on (listed 8 (column_at b.counts b.tableau)) → imbalance ≡ imbalance_of b.foundation
    → used ≡ cells_used b.cells → empty ≡ empty_columns (listed 8 (column_at b.counts b.tableau))
    → longest ≡ longest_run (listed 8 (column_at b.counts b.tableau))
    → record { home = home; immediate = immediate; blocked = blocked; imbalance = imbalance; used = used; empty = empty; longest = longest } ≡ features_of (shown b)
unfolding features_of shown
features_are b p q r s t u v = cc
