-- The way from a key's home: straight up to the last entry, and then up from the first.
use mathlib.Core.Path.{◌≡◌}
use Prim.Native.Nat.{ℕ, ◌+◌, ◌-◌, ◌<◌, ◌≤◌}
use native.Mathlib.Nat.{mod-lt}
use native.Mathlib.Omega.{arith}
use native.Mathlib.Decide.{dec_le}
use borrow.Author.Tests.{le-leb, lt-leb}
use Rattle.costs.specs.Table.{home, away}

pub home_below : (n k : ℕ) → 1 ≤ n → home n k < n
unfolding home
home_below n k h = mod-lt k h

module _ (n k i : ℕ) where
  pub away_up : home n k ≤ i → away n k i ≡ i - home n k
  unfolding away
  away_up h = rw (le-leb (home n k) i h)

  pub away_round : i < home n k → away n k i ≡ n + i - home n k
  unfolding away
  away_round h = rw (lt-leb (home n k) i h)

-- no two entries are as far away
pub away_one : (n k i j : ℕ) → 1 ≤ n → i < n → j < n → away n k i ≡ away n k j → i ≡ j
away_one n k i j s l m e = by_place (dec_le (home n k) i) (dec_le (home n k) j)
  where
    by_place : Dec (home n k ≤ i) → Dec (home n k ≤ j) → i ≡ j
    by_place (yes p) (yes q) = omega (arith, away_up n k i p, away_up n k j q)
    by_place (yes p) (no q) = omega (arith, away_up n k i p, away_round n k j (omega arith), home_below n k s)
    by_place (no p) (yes q) = omega (arith, away_round n k i (omega arith), away_up n k j q, home_below n k s)
    by_place (no p) (no q) = omega (arith, away_round n k i (omega arith), away_round n k j (omega arith), home_below n k s)
