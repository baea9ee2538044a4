-- The cost that a table says of a key: of its one entry, or of none.
use mathlib.Core.Path.{◌≡◌, refl, sym, ap, ap₂, ◌∙◌}
use mathlib.Core.Bool.{Bool, true, false, cond}
use mathlib.Core.List.{List}
use Prim.Native.Nat.{ℕ, zero, suc, ◌<◌}
use native.Mathlib.Nat.{not-suc-le-zero}
use native.Mathlib.Omega.{arith}
use native.Mathlib.Decide.{ℕ_discrete}
use Rattle.base.proofs.Words.{not_so}
use Rattle.costs.specs.Entries.{cost_at, holds}
use Rattle.costs.specs.CostIn.{unknown, known, or_else, cost_in}

module _ (keys costs : List ℕ) (k : ℕ) where
  pub cost_none : (n : ℕ) → ((i : ℕ) → i < n → holds keys costs i k ≡ false) → cost_in keys costs n k ≡ unknown
  unfolding cost_in
  cost_none zero h = refl
  cost_none (suc n) h = rw (cost_none n (λ i l. h i (omega arith)), h n (omega arith))

  pub cost_found : (n i : ℕ) → i < n → holds keys costs i k ≡ true → ((j : ℕ) → j < n → holds keys costs j k ≡ true → j ≡ i)
      → cost_in keys costs n k ≡ known (cost_at costs i)
  unfolding cost_in
  cost_found zero i l h a = absurd (not-suc-le-zero l)
  cost_found (suc n) i l h a = here_or_before (cost_found n i) (ℕ_discrete i n)
    where
      none : i ≡ n → (j : ℕ) → j < n → holds keys costs j k ≡ false
      none e j m = not_so (holds keys costs j k) (λ q. let s = a j (omega arith) q in let w : ⊥ = omega arith in w)

      here_or_before :
          (i < n → holds keys costs i k ≡ true → ((j : ℕ) → j < n → holds keys costs j k ≡ true → j ≡ i) → cost_in keys costs n k ≡ known (cost_at costs i)) →
          Dec (i ≡ n) → or_else (cost_in keys costs n k) (cond (holds keys costs n k) (known (cost_at costs n)) unknown) ≡ known (cost_at costs i)
      here_or_before before (yes e) =
          let there : holds keys costs n k ≡ true = ap (λ (j : ℕ). holds keys costs j k) (sym e) ∙ h in
          rw (cost_none n (none e), there) (ap (λ (j : ℕ). known (cost_at costs j)) (sym e))
      here_or_before before (no d) = rw (before (omega arith) h (λ j m. a j (omega arith)))

-- tables with the same entries for a key say the same of it
pub cost_same : (keys costs X Y : List ℕ) (k n : ℕ) → ((i : ℕ) → i < n → holds X Y i k ≡ holds keys costs i k)
    → ((i : ℕ) → i < n → holds X Y i k ≡ true → cost_at Y i ≡ cost_at costs i) → cost_in X Y n k ≡ cost_in keys costs n k
unfolding cost_in
cost_same keys costs X Y k zero h e = refl
cost_same keys costs X Y k (suc n) h e =
    ap₂ or_else (cost_same keys costs X Y k n (λ i l. h i (omega arith)) (λ i l. e i (omega arith)))
    (by_test (holds X Y n k) (holds keys costs n k) (h n (omega arith)) (e n (omega arith)))
  where
    by_test : (a b : Bool) → a ≡ b → (a ≡ true → cost_at Y n ≡ cost_at costs n) → cond a (known (cost_at Y n)) unknown ≡ cond b (known (cost_at costs n)) unknown
    by_test true b q f = rw (f refl, ← q)
    by_test false b q f = rw (← q)
