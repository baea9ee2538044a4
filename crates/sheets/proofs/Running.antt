-- A run of deals entered one after the other: what a season's loop knows.
use mathlib.Core.Path.{◌≡◌, sym, ap, ◌∙◌, subst, fun_ext}
use mathlib.Core.Bool.{Bool, true, false, ◌||◌}
use Prim.Native.Nat.{ℕ, suc, ◌+◌, ◌<◌, ◌≤◌}
use native.Mathlib.Numerals.{add-one}
use native.Mathlib.Omega.{arith}
use lib.Dec.{eqb}
use Rattle.base.proofs.Words.{not_so}
use Rattle.sheets.specs.Figures.{the_budget, told}
use Rattle.sheets.specs.Over.{Settings, Result, figure_over, sheet_over, between, zero_sheet}
use Rattle.sheets.specs.Good.{good_sheet}
use Rattle.sheets.specs.Noted.{noted}
use Rattle.sheets.specs.Promises.{Enterable}
use Rattle.sheets.proofs.Covers.{covered_is}
use Rattle.sheets.proofs.Joined.{over_tells, over_nothing}
use Rattle.sheets.proofs.Entered.{over_one, between_no, between_high, between_next}
use Rattle.sheets.proofs.Goodness.{Answered, sheet_good}

the_budget_lem : (s : Settings) (r : ℕ → Result) (p : ℕ → Bool) → told (sheet_over s r p) the_budget ≡ s.budget
unfolding figure_over
the_budget_lem s r p = over_tells s r p the_budget tt

module _ (s : Settings) (r : ℕ → Result) (low : s.budget ≤ 1000000) (fine : (i : ℕ) → i < 32000 → Answered s.budget (r (suc i))) where
  -- a started sheet is the sheet over a run that has not begun
  pub run_start : (from m : ℕ) → m < from → zero_sheet s ≡ sheet_over s r (between from m)
  run_start from m h = sym (over_nothing s r (between from m) (λ i l. between_no from m (suc i) h))

  -- the sheet over any run is good
  pub run_good : (from m : ℕ) → good_sheet (sheet_over s r (between from m)) ≡ true
  run_good from m = sheet_good s r (between from m) low (λ i l t. fine i l)

  -- the number after a run
  not_yet : (from m : ℕ) → between from m (suc m) ≡ false
  not_yet from m = not_so (between from m (suc m)) (λ t. let h = between_high from m (suc m) t in omega arith)

  -- it can be entered
  pub run_enterable : (from m : ℕ) → m < 32000 → Enterable (sheet_over s r (between from m)) (m + 1) (r (m + 1))
  run_enterable from m h =
      subst (λ (n : ℕ). Enterable (sheet_over s r (between from m)) n (r n)) (sym (add-one m)) at_next
    where
      at_next : Enterable (sheet_over s r (between from m)) (suc m) (r (suc m))
      at_next =
          record {
            good = run_good from m;
            low = omega arith;
            high = h;
            new = covered_is s r (between from m) m h ∙ not_yet from m;
            counted = (fine m h).counted;
            afforded = budget_told (fine m h).afforded;
            short = (fine m h).short;
          }
        where
          budget_told : (r (suc m)).pops ≤ s.budget → (r (suc m)).pops ≤ told (sheet_over s r (between from m)) the_budget
          budget_told p = subst (λ (x : ℕ). (r (suc m)).pops ≤ x) (sym (the_budget_lem s r (between from m))) p

  -- and gives the sheet over the longer run
  pub run_next : (from m : ℕ) → from ≤ m + 1 → m < 32000 → noted (sheet_over s r (between from m)) (m + 1) (r (m + 1)) ≡ sheet_over s r (between from (m + 1))
  run_next from m h l =
      ap (λ (n : ℕ). noted (sheet_over s r (between from m)) n (r n)) (add-one m)
      ∙ over_one s r (between from m) m l (not_yet from m) (fine m l).short
      ∙ ap (sheet_over s r) (fun_ext (λ n. ap (λ (x : ℕ). between from m n || eqb n x) (sym (add-one m)) ∙ between_next from m n h))
