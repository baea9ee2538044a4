-- How many entries are used: one more with each new key, and while there are fewer than all, a place is found.
use mathlib.Core.Path.{◌≡◌, refl, sym, ap, ◌∙◌, subst}
use mathlib.Core.Bool.{Bool, true, false, cond}
use mathlib.Core.List.{List}
use Prim.Native.Nat.{ℕ, ◌+◌, ◌<◌, ◌≤◌}
use native.Mathlib.Omega.{arith}
use native.Mathlib.Decide.{ℕ_discrete}
use borrow.Author.Tests.{eq-eqb, ne_eqb}
use lib.Dec.{eqb}
use lib.ListN.{length, get_or, set}
use Rattle.base.specs.Words.{sum}
use Rattle.base.proofs.Sums.{sum_same, sum-add, sum-zero, sum_one, sum_ones, sum-all}
use Rattle.costs.specs.declared.Slot.{Slot}
use Rattle.costs.specs.declared.Slot.TheVariants.{Full}
use Rattle.costs.specs.Entries.{is_used, used}
use Rattle.costs.specs.Table.{Table}
use Rattle.costs.specs.Promises.{Held, Vacant, Finds, Stores}
use Rattle.costs.proofs.Entries.{used_not, held-used, used_stored, used-elsewhere}

pub used_none : (costs : List ℕ) (n : ℕ) → ((i : ℕ) → i < n → get_or costs i 0 ≡ 0) → used costs n ≡ 0
unfolding used
used_none costs n z = sum-zero (λ i. cond (is_used costs i) 1 0) n (λ i l. rw (used_not costs i (z i l)))

pub used_most : (costs : List ℕ) (n : ℕ) → used costs n ≤ n
unfolding used
used_most costs n = sum_ones (λ i. cond (is_used costs i) 1 0) n (λ i l. at_most_lem (is_used costs i))
  where
    at_most_lem : (b : Bool) → cond b 1 0 ≤ 1
    at_most_lem true = omega arith
    at_most_lem false = omega arith

-- while an entry is free, a place is found
pub used-room : {keys costs : List ℕ} {n k : ℕ} {r : Slot} → used costs n < n → Finds keys costs n k r → r ≡ Full → ⊥
unfolding used
used-room {keys} {costs} {n} h f e =
    let a = sum-all (λ i. cond (is_used costs i) 1 0) n (λ i l. rw ((f.crowded e).taken i l)) in
    omega arith

module _ {keys costs X Y : List ℕ} {n k i c : ℕ} (t : Table keys costs n) (s : Stores keys costs X Y n i k c) where
  -- a store changes the number by what it changes at its entry
  used_stored_by : i < n → (b : ℕ) → cond (is_used costs i) 1 0 + b ≡ 1 → used Y n ≡ used costs n + b
  unfolding used
  used_stored_by l b e =
      ap (λ (y : List ℕ). sum n (λ j. cond (is_used y j) 1 0)) s.costed
      ∙ sum_same (λ j. cond (is_used (set costs i (c + 1)) j) 1 0) (λ j. cond (is_used costs j) 1 0 + cond (eqb j i) b 0) n (λ j m. here_or_not j (ℕ_discrete j i))
      ∙ sum-add (λ j. cond (is_used costs j) 1 0) (λ j. cond (eqb j i) b 0) n
      ∙ ap (λ (x : ℕ). sum n (λ j. cond (is_used costs j) 1 0) + x) added
    where
      in_keys : i < length keys
      in_keys = omega (arith, t.keyed)

      in_costs : i < length costs
      in_costs = omega (arith, t.costed)

      here_or_not : (j : ℕ) → Dec (j ≡ i) → cond (is_used (set costs i (c + 1)) j) 1 0 ≡ cond (is_used costs j) 1 0 + cond (eqb j i) b 0
      here_or_not j (yes q) =
          subst (λ (x : ℕ). cond (is_used (set costs i (c + 1)) x) 1 0 ≡ cond (is_used costs x) 1 0 + cond (eqb x i) b 0) (sym q)
          (rw (used_stored keys costs i k c in_keys in_costs, eq-eqb i i refl) (sym e))
      here_or_not j (no d) = rw (used-elsewhere keys costs i k c in_keys in_costs j d, ne_eqb j i d) (omega arith)

      added : sum n (λ j. cond (eqb j i) b 0) ≡ b
      added = sum_one (λ j. cond (eqb j i) b 0) n i l (λ j m d. rw (ne_eqb j i d)) ∙ rw (eq-eqb i i refl)

  pub used-vacant : Vacant keys costs n k i → used Y n ≡ used costs n + 1
  used-vacant v = used_stored_by v.place.within 1 (rw v.free)

  pub used-held : Held keys costs n k i → used Y n ≡ used costs n
  used-held h = used_stored_by h.place.within 0 (rw (held-used keys costs i k h.here)) ∙ (omega arith)
