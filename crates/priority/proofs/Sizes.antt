-- How large the parts of a priority are, and that the raised priorities compare as the priorities do.
use mathlib.Core.Path.{◌≡◌, ap₂, ◌∙◌}
use Prim.Native.Nat.{◌≤◌}
use native.Mathlib.Omega.{arith}
use lib.Dec.{leb}
use lib.IntN.{sub_ℕ}
use lib.Signed.{le_z}
use Rattle.generate.specs.declared.Way.{Way}
use Rattle.generate.specs.declared.Way.TheVariants.{ColumnToColumn, ColumnToHome, ColumnToCell, CellToColumn, CellToHome, HomeToColumn}
use Rattle.features.specs.Features.{Bounded}
use Rattle.features.specs.declared.Features.{Features}
use Rattle.score.proofs.Keys.{raised, compared}
use Rattle.priority.specs.Priority.{base_adds, base_takes, priority_adds, priority_takes, priority, priority_bias, priority_key}

pub base_adds_most : (w : Way) → base_adds w ≤ 900
base_adds_most ColumnToColumn = omega arith
base_adds_most ColumnToHome = omega arith
base_adds_most ColumnToCell = omega arith
base_adds_most CellToColumn = omega arith
base_adds_most CellToHome = omega arith
base_adds_most HomeToColumn = omega arith

pub base_takes_most : (w : Way) → base_takes w ≤ 250
base_takes_most ColumnToColumn = omega arith
base_takes_most ColumnToHome = omega arith
base_takes_most ColumnToCell = omega arith
base_takes_most CellToColumn = omega arith
base_takes_most CellToHome = omega arith
base_takes_most HomeToColumn = omega arith

module _ (w : Way) (f g : Features) (b : Bounded f) (c : Bounded g) where
  pub priority_adds_most : priority_adds w f g ≤ 154360
  unfolding priority_adds
  priority_adds_most = let a = base_adds_most w in omega arith

  pub priority-takes_most : priority_takes w f g ≤ priority_bias
  unfolding priority_takes
  priority-takes_most = let a = base_takes_most w in omega arith

  pub priority_key_lem : sub_ℕ (priority_key w f g) priority_bias ≡ priority w f g
  unfolding priority_key priority
  priority_key_lem = raised (priority_adds w f g) (priority_takes w f g) priority_bias (let t = priority-takes_most in omega arith)

pub priority-order : (v w : Way) (f g h : Features) → Bounded f → Bounded g → Bounded h
    → leb (priority_key v f g) (priority_key w f h) ≡ le_z (priority v f g) (priority w f h)
priority-order v w f g h b c d =
    compared (priority_key v f g) (priority_key w f h) priority_bias ∙ ap₂ le_z (priority_key_lem v f g b c) (priority_key_lem w f h b d)
