-- A first safe move can be said and is allowed, and brings one card home.
use Rattle.std.specs.Prelude.{None, Some, Option}
use mathlib.Core.Path.{◌≡◌, refl, subst}
use mathlib.Core.Bool.{true}
use mathlib.Core.Logic.{◌⊎◌, ⊎_elim}
use Prim.Native.Nat.{suc, ◌≤◌}
use native.Mathlib.Omega.{arith}
use Rattle.board.specs.Table.{Table}
use Rattle.board.specs.Fair.{Fair}
use Rattle.board.proofs.Fair.{fair_piles}
use Rattle.questions.specs.Questions.{home_count}
use Rattle.questions.proofs.Totals.{home_52}
use Rattle.moves.specs.Move.{from, to, sayable}
use Rattle.moves.specs.Play.{allowed, after_move, homeward}
use Rattle.moves.specs.declared.Move.{Move}
use Rattle.moves.specs.declared.Move.TheVariants.{TableauToTableau, TableauToFoundation, TableauToFreeCell, FreeCellToTableau, FreeCellToFoundation, FoundationToTableau}
use Rattle.moves.proofs.Fairness.{fair_after}
use Rattle.moves.proofs.Totals.{home_total}
use Rattle.generate.specs.Found.{found, way_of, is_in}
use Rattle.generate.specs.declared.Way.{Way}
use Rattle.generate.specs.declared.Way.TheVariants.{ColumnToColumn, ColumnToHome, ColumnToCell, CellToColumn, CellToHome, HomeToColumn}
use Rattle.generate.proofs.Gathering.{in_either}
use Rattle.generate.proofs.Members.{found-allowed, found_said}
use Rattle.safe.specs.Safe.{is_safe, home_moves, first_safe}
use Rattle.safe.proofs.Choosing.{first_in}

-- from a column or a cell to a foundation
record Homeward (m : Move) : Type 0 where
  leaves : homeward (from m) ≡ 0
  comes : homeward (to m) ≡ 1

abbrev Goes : Way → Move → Type 0
Goes ColumnToColumn m = Unit {0}
Goes ColumnToHome m = Homeward m
Goes ColumnToCell m = Unit {0}
Goes CellToColumn m = Unit {0}
Goes CellToHome m = Homeward m
Goes HomeToColumn m = Unit {0}

goes : (m : Move) → Goes (way_of m) m
goes (TableauToTableau s d n c) = tt
goes (TableauToFoundation s c) = record { leaves = refl; comes = refl }
goes (TableauToFreeCell s i c) = tt
goes (FreeCellToTableau i d c) = tt
goes (FreeCellToFoundation i c) = record { leaves = refl; comes = refl }
goes (FoundationToTableau s d c) = tt

-- ---- the move

module _ (t : Table) {m : Move} (e : first_safe t ≡ Some m) where
  found-home : is_in m (found t ColumnToHome) ⊎ is_in m (found t CellToHome)
  unfolding first_safe home_moves
  found-home = in_either m (found t ColumnToHome) (found t CellToHome) (first_in (is_safe t) (home_moves t) e)

  pub safe_said : Fair t → sayable m ≡ true
  safe_said f = ⊎_elim (found_said t ColumnToHome m f) (found_said t CellToHome m f) found-home

  pub safe-allowed : allowed t m ≡ true
  safe-allowed = ⊎_elim (λ i. (found-allowed t ColumnToHome m i).0) (λ i. (found-allowed t CellToHome m i).0) found-home

  safe-homeward : Homeward m
  safe-homeward =
      ⊎_elim (λ i. subst (λ (w : Way). Goes w m) (found-allowed t ColumnToHome m i).1 (goes m))
      (λ i. subst (λ (w : Way). Goes w m) (found-allowed t CellToHome m i).1 (goes m)) found-home

  module _ (f : Fair t) where
    pub safe_fair : Fair (after_move t m)
    safe_fair = fair_after t m f (safe_said f) safe-allowed

    pub one_more_home : home_count (after_move t m).foundation ≡ suc (home_count t.foundation)
    one_more_home =
        let h = home_total t m f.seats (safe_said f) safe-allowed in
        let g = safe-homeward in
        let a = g.leaves in
        let b = g.comes in
        omega arith

-- ---- the 52 cards

-- no move is left once all are home
pub all-home : (t : Table) → Fair t → 52 ≤ home_count t.foundation → first_safe t ≡ None
all-home t f h = by_first (first_safe t) refl
  where
    by_first : (r : Option Move) → first_safe t ≡ r → first_safe t ≡ None
    by_first None e = e
    by_first (Some m) e =
        let n = one_more_home t e f in
        let k = home_52 (after_move t m).foundation (fair_piles (safe_fair t e f)) in
        absurd (let z : ⊥ = omega arith in z)
