-- Laws of one entry, before and after a store; only here is it opened what makes an entry a key's.
use mathlib.Core.Path.{◌≡◌, sym, ap, ◌∙◌}
use mathlib.Core.Bool.{true, false}
use mathlib.Core.List.{List}
use Prim.Native.Nat.{ℕ, ◌+◌, ◌-◌, ◌<◌}
use native.Mathlib.Omega.{arith}
use native.Mathlib.Decide.{ℕ_discrete}
use borrow.Author.Tests.{eq-eqb, eqb-true, lt-ltb, le-ltb}
use lib.Dec.{eqb, ltb}
use lib.ListN.{length, get_or, set}
use lib.Seq.{get_or-set_same, get_or-set_other}
use Rattle.base.proofs.Words.{first, second, first_fails}
use Rattle.costs.specs.Entries.{is_used, cost_at, holds}

module _ (costs : List ℕ) (i : ℕ) where
  pub used_not : get_or costs i 0 ≡ 0 → is_used costs i ≡ false
  unfolding is_used
  used_not e = le-ltb 0 (get_or costs i 0) (omega arith)

  pub used_yes : (get_or costs i 0 ≡ 0 → ⊥) → is_used costs i ≡ true
  unfolding is_used
  used_yes d = lt-ltb 0 (get_or costs i 0) (omega arith)

module _ (keys costs : List ℕ) (i : ℕ) where
  pub holds_free : (k : ℕ) → is_used costs i ≡ false → holds keys costs i k ≡ false
  unfolding holds
  holds_free k e = first_fails (is_used costs i) (eqb (get_or keys i 0) k) e

  pub holds-used : (k : ℕ) → is_used costs i ≡ true → holds keys costs i k ≡ eqb (get_or keys i 0) k
  unfolding holds
  holds-used k e = rw e

  pub held-used : (k : ℕ) → holds keys costs i k ≡ true → is_used costs i ≡ true
  unfolding holds
  held-used k e = first (is_used costs i) (eqb (get_or keys i 0) k) e

  -- an entry is for one key
  pub held_one : (j k : ℕ) → holds keys costs i j ≡ true → holds keys costs i k ≡ true → j ≡ k
  unfolding holds
  held_one j k e f =
      sym (eqb-true (get_or keys i 0) j (second (is_used costs i) (eqb (get_or keys i 0) j) e))
      ∙ eqb-true (get_or keys i 0) k (second (is_used costs i) (eqb (get_or keys i 0) k) f)

-- ---- after a store of key k with cost c at an entry

module _ (keys costs : List ℕ) (at k c : ℕ) (h : at < length keys) (g : at < length costs) where
  pub used_stored : is_used (set costs at (c + 1)) at ≡ true
  used_stored = used_yes (set costs at (c + 1)) at (λ e. let q = get_or-set_same costs at (c + 1) 0 g in let w : ⊥ = omega arith in w)

  pub used-elsewhere : (i : ℕ) → (i ≡ at → ⊥) → is_used (set costs at (c + 1)) i ≡ is_used costs i
  unfolding is_used
  used-elsewhere i d = ap (ltb 0) (get_or-set_other costs at i (c + 1) 0 d)

  pub used_stays : (i : ℕ) → is_used costs i ≡ true → is_used (set costs at (c + 1)) i ≡ true
  used_stays i e = here_or_not (ℕ_discrete i at)
    where
      here_or_not : Dec (i ≡ at) → is_used (set costs at (c + 1)) i ≡ true
      here_or_not (yes q) = ap (is_used (set costs at (c + 1))) q ∙ used_stored
      here_or_not (no d) = used-elsewhere i d ∙ e

  pub holds_stored : holds (set keys at k) (set costs at (c + 1)) at k ≡ true
  holds_stored = holds-used (set keys at k) (set costs at (c + 1)) at k used_stored ∙ eq-eqb (get_or (set keys at k) at 0) k (get_or-set_same keys at k 0 h)

  pub holds-elsewhere : (i j : ℕ) → (i ≡ at → ⊥) → holds (set keys at k) (set costs at (c + 1)) i j ≡ holds keys costs i j
  unfolding holds
  holds-elsewhere i j d = rw (used-elsewhere i d, get_or-set_other keys at i k 0 d)

  pub cost_stored : cost_at (set costs at (c + 1)) at ≡ c
  unfolding cost_at
  cost_stored = let q = get_or-set_same costs at (c + 1) 0 g in omega arith

  pub cost_elsewhere : (i : ℕ) → (i ≡ at → ⊥) → cost_at (set costs at (c + 1)) i ≡ cost_at costs i
  unfolding cost_at
  cost_elsewhere i d = ap (λ (x : ℕ). x - 1) (get_or-set_other costs at i (c + 1) 0 d)
