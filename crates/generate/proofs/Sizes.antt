-- How many moves of a kind there can be, on any table.
use mathlib.Core.Path.{◌≡◌, refl}
use mathlib.Core.Bool.{Bool, true, false, cond}
use mathlib.Core.List.{[], ◌∷◌}
use Prim.Native.Nat.{ℕ, suc, ◌+◌, ◌*◌, ◌<◌, ◌≤◌}
use native.Mathlib.Omega.{arith}
use lib.ListN.{length}
use Rattle.board.specs.Table.{Table}
use Rattle.moves.specs.Play.{allowed}
use Rattle.moves.specs.declared.Move.{Move}
use Rattle.generate.specs.Found.{target_count, length_count, offered, if_allowed, found_between, found_from, found, most_found}
use Rattle.generate.specs.Asked.{record_room}
use Rattle.generate.specs.declared.Way.{Way}
use Rattle.generate.specs.declared.Way.TheVariants.{ColumnToColumn, ColumnToHome, ColumnToCell, CellToColumn, CellToHome, HomeToColumn}
use Rattle.generate.proofs.Gathering.{gather_most, gather_but_one}
use Rattle.generate.proofs.Columns.{own_column_lem}

pub most_one : (t : Table) (m : Move) → length (if_allowed t m) ≤ 1
unfolding if_allowed
most_one t m = by_test (allowed t m)
  where
    by_test : (a : Bool) → length (cond a (m ∷ []) []) ≤ 1
    by_test true = omega arith
    by_test false = omega arith

module _ (t : Table) (w : Way) where
  pub most_between : (i j : ℕ) → length (found_between t w i j) ≤ length_count w * 1
  unfolding found_between
  most_between i j = gather_most (λ k. if_allowed t (offered t w i j (suc k))) (length_count w) 1 (λ k h. most_one t (offered t w i j (suc k)))

  most_from : (i : ℕ) → length (found_from t w i) ≤ target_count w * (length_count w * 1)
  unfolding found_from
  most_from i = gather_most (found_between t w i) (target_count w) (length_count w * 1) (λ j h. most_between i j)

-- a column to itself is no move: seven columns are left
most_runs : (t : Table) (i : ℕ) → i < 8 → length (found_from t ColumnToColumn i) ≤ 91
unfolding found_from
most_runs t i h =
    let n = gather_but_one (found_between t ColumnToColumn i) 8 13 i h (own_column_lem t i i refl) (λ j l. most_between t ColumnToColumn i j) in
    omega arith

pub most_found_lem : (t : Table) (w : Way) → length (found t w) ≤ most_found w
unfolding found
most_found_lem t ColumnToColumn = gather_most (found_from t ColumnToColumn) 8 91 (λ i h. most_runs t i h)
most_found_lem t ColumnToHome = gather_most (found_from t ColumnToHome) 8 1 (λ i h. most_from t ColumnToHome i)
most_found_lem t ColumnToCell = gather_most (found_from t ColumnToCell) 8 4 (λ i h. most_from t ColumnToCell i)
most_found_lem t CellToColumn = gather_most (found_from t CellToColumn) 4 8 (λ i h. most_from t CellToColumn i)
most_found_lem t CellToHome = gather_most (found_from t CellToHome) 4 1 (λ i h. most_from t CellToHome i)
most_found_lem t HomeToColumn = gather_most (found_from t HomeToColumn) 4 8 (λ i h. most_from t HomeToColumn i)

-- all six kinds together: 836, and there is room for their records
pub all_kinds : most_found ColumnToColumn + (most_found ColumnToHome + (most_found ColumnToCell + (most_found CellToColumn + (most_found CellToHome + most_found HomeToColumn)))) ≡ 836
all_kinds = refl

pub room_for_all : 836 * 5 ≡ record_room
room_for_all = refl

kind_fits : (w : Way) → most_found w * 5 ≤ record_room
kind_fits ColumnToColumn = omega arith
kind_fits ColumnToHome = omega arith
kind_fits ColumnToCell = omega arith
kind_fits CellToColumn = omega arith
kind_fits CellToHome = omega arith
kind_fits HomeToColumn = omega arith

pub room_enough : (t : Table) (w : Way) {lent : ℕ} → record_room ≤ lent → (0 + length (found t w)) * 5 ≤ lent
room_enough t w h = let m = most_found_lem t w in let k = kind_fits w in omega arith
