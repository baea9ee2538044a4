-- What a written move is refused for, and what it means if it is not: one law for each sentence of request (iv).
use mathlib.Core.Path.{◌≡◌, refl, sym, ap, ◌∙◌}
use mathlib.Core.Bool.{Bool, true, false, cond, not}
use Prim.Native.Nat.{ℕ, zero, suc, ◌-◌, ◌<◌, ◌≤◌}
use native.Mathlib.Omega.{arith}
use borrow.Author.Tests.{eq-eqb, ne_eqb, lt-leb, le-ltb}
use lib.Dec.{eqb, leb, ltb}
use lib.ListN.{length}
use Rattle.base.specs.Answer.{given, refused}
use Rattle.base.proofs.Words.{not_so, first_fails, second_fails}
use Rattle.board.specs.Table.{Table}
use Rattle.runs.specs.Run.{run_length}
use Rattle.moves.specs.Play.{there}
use Rattle.moves.specs.declared.Place.TheVariants.{Column as column}
use Rattle.generate.specs.Found.{offered}
use Rattle.generate.specs.declared.Way.TheVariants.{ColumnToColumn}
use Rattle.sense.specs.Meant.{vacant, most_into, fit_from, fitting_in, fitting, origin, leaves, meant}
use Rattle.notation.specs.declared.Jot.{Jot}
use Rattle.notation.specs.declared.Jot.TheVariants.{Between, Counted}
use Rattle.sense.proofs.Meaning.{fitting_is, meant-sense}
use Rattle.sense.proofs.Finding as finding

module _ (t : Table) (w : Jot) where
  pub own_column_lem : leaves w ≡ false → meant t w ≡ refused 30
  own_column_lem e = sym (finding.meant_own t w e)

  pub no_card_lem : leaves w ≡ true → length (there t (origin w)) < 1 → meant t w ≡ refused 33
  no_card_lem a h = sym (finding.meant_none t w a h)

-- ---- a column is empty, or it is not

module _ (t : Table) (j : ℕ) where
  bare : length (there t (column j)) ≡ 0 → vacant t j ≡ true
  unfolding vacant
  bare e = eq-eqb (length (there t (column j))) 0 e

  occupied : 1 ≤ length (there t (column j)) → vacant t j ≡ false
  unfolding vacant
  occupied h = ne_eqb (length (there t (column j))) 0 (λ e. let z : ⊥ = omega arith in z)

-- ---- from a column with cards to another

module _ (t : Table) (i j : ℕ) (away : not (eqb i j) ≡ true) (some : 1 ≤ length (there t (column i))) where
  -- a `v` on an occupied destination, with a digit that is 0, or with one that is not below the most
  pub count_occupied : (n : ℕ) → 1 ≤ length (there t (column j)) → meant t (Counted i j n) ≡ refused 30
  count_occupied n h = meant-sense t (Counted i j n) away some ∙ sym (finding.count_occupied t i j n (occupied t j h))

  pub count_none : (n : ℕ) → n ≡ 0 → meant t (Counted i j n) ≡ refused 30
  count_none n e = meant-sense t (Counted i j n) away some ∙ sym (finding.count_outside t i j n {most = most_into t i j} refl (first_fails (leb 1 n) (ltb n (most_into t i j)) (lt-leb 1 n (omega arith))))

  pub count_most : (n : ℕ) → most_into t i j ≤ n → meant t (Counted i j n) ≡ refused 30
  count_most n h = meant-sense t (Counted i j n) away some ∙ sym (finding.count_outside t i j n {most = most_into t i j} refl (second_fails (leb 1 n) (ltb n (most_into t i j)) (le-ltb n (most_into t i j) h)))

  pub count_means : (n : ℕ) → length (there t (column j)) ≡ 0 → 1 ≤ n → n < most_into t i j → meant t (Counted i j n) ≡ given (offered t ColumnToColumn i j n)
  count_means n e one less =
      meant-sense t (Counted i j n) away some
      ∙ sym (finding.count_means t i j n {most = most_into t i j} refl (bare t j e) one less {m = offered t ColumnToColumn i j n} refl)

  -- without it the count is the most
  pub most_means : length (there t (column j)) ≡ 0 → meant t (Between i j) ≡ given (offered t ColumnToColumn i j (most_into t i j))
  most_means e =
      meant-sense t (Between i j) away some
      ∙ sym (finding.means_most t i j (bare t j e) {n = most_into t i j} refl {m = offered t ColumnToColumn i j (most_into t i j)} refl)

  -- onto cards: the count that fits, or none does
  module _ (laid : 1 ≤ length (there t (column j))) where
    pub fit_means : (n : ℕ) → 1 ≤ n → n ≤ run_length (there t (column i)) → fit_from t i j n ≡ true → meant t (Between i j) ≡ given (offered t ColumnToColumn i j n)
    fit_means n one most fits =
        let q : suc (n - 1) ≡ n = omega arith in
        let f = fitting_is t i j (occupied t j laid) (n - 1) (omega arith) (ap (fit_from t i j) q ∙ fits) ∙ q in
        meant-sense t (Between i j) away some
        ∙ sym (finding.means_fit t i j (occupied t j laid) {n = n} (sym f) one {m = offered t ColumnToColumn i j n} refl)

    module _ (none : (n : ℕ) → 1 ≤ n → n ≤ run_length (there t (column i)) → fit_from t i j n ≡ true → ⊥) where
      none_in : (most : ℕ) → most ≤ run_length (there t (column i)) → fitting_in t i j most ≡ 0
      unfolding fitting_in
      none_in zero h = refl
      none_in (suc n) h =
          ap (λ (b : Bool). cond b (suc n) (fitting_in t i j n)) (not_so (fit_from t i j (suc n)) (none (suc n) (omega arith) h))
          ∙ none_in n (omega arith)

      pub none_fits_lem : meant t (Between i j) ≡ refused 38
      unfolding fitting
      none_fits_lem =
          meant-sense t (Between i j) away some
          ∙ sym (finding.fits_none t i j (occupied t j laid) (none_in (run_length (there t (column i))) (omega arith)))
