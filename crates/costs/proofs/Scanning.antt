-- A scan passes used entries of other keys, one at a time, until it stops.
use mathlib.Core.Path.{◌≡◌, subst}
use mathlib.Core.Bool.{true, false}
use mathlib.Core.List.{List}
use Prim.Native.Nat.{ℕ, ◌+◌, ◌<◌, ◌≤◌}
use native.Mathlib.Omega.{arith}
use native.Mathlib.Decide.{dec_lt}
use lib.ListN.{get_or}
use Rattle.base.proofs.Words.{true_or_not}
use Rattle.costs.specs.Entries.{is_used, holds}
use Rattle.costs.specs.Promises.{Passed, Scans}
use Rattle.costs.proofs.Entries.{used_not}

module _ {keys costs : List ℕ} {from i k : ℕ} (p : Passed keys costs from i k) where
  last : {P : ℕ → Type 0} → ((j : ℕ) → from ≤ j → j < i → P j) → P i → (j : ℕ) → from ≤ j → j < i + 1 → P j
  last {P} h e j l m = by_place (dec_lt j i)
    where
      by_place : Dec (j < i) → P j
      by_place (yes q) = h j l q
      by_place (no q) = let s : i ≡ j = omega arith in subst P s e

  pub passed_more : is_used costs i ≡ true → holds keys costs i k ≡ false → Passed keys costs from (i + 1) k
  passed_more u o =
      record { low = let w = p.low in omega arith; taken = last {P = λ j. is_used costs j ≡ true} p.taken u; others = last {P = λ j. holds keys costs j k ≡ false} p.others o }

  module _ {end : ℕ} where
    pub scans_free : i < end → get_or costs i 0 ≡ 0 → Scans keys costs from end k i
    scans_free l e =
        record { high = omega arith; passed = p; own = λ h u. true_or_not (is_used costs i) u (used_not costs i e) }
