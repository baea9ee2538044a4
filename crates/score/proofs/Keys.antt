-- The keys that the search compares: a key less its bias is the score, and keys compare as scores do.
use mathlib.Core.Path.{◌≡◌, sym, ap, ap₂, ◌∙◌}
use Prim.Native.Nat.{ℕ, suc, ◌+◌, ◌-◌, ◌<◌, ◌≤◌}
use native.Mathlib.Omega.{arith}
use native.Mathlib.Decide.{dec_lt}
use borrow.Author.Tests.{lt-ltb, le-ltb, le-leb, lt-leb, leb-true}
use lib.Dec.{leb}
use lib.IntN.{pos, negsuc, sub_ℕ}
use lib.Signed.{le_z}
use Rattle.base.proofs.Words.{same_test}
use Rattle.features.specs.Features.{Bounded}
use Rattle.score.specs.Scores.{heuristic_adds, heuristic_takes, heuristic, heuristic_bias, heuristic_key, progress_adds, progress_takes, progress, progress_bias, progress_key}
use Rattle.features.specs.declared.Features.{Features}

-- ---- differences of natural numbers

pub sub_below : (a b : ℕ) → a < b → sub_ℕ a b ≡ negsuc (b - suc a)
sub_below a b h = rw (lt-ltb a b h)

pub sub_above : (a b : ℕ) → b ≤ a → sub_ℕ a b ≡ pos (a - b)
sub_above a b h = rw (le-ltb a b h)

pub raised : (a t bias : ℕ) → t ≤ a + bias → sub_ℕ (a + bias - t) bias ≡ sub_ℕ a t
raised a t bias h = by_side (dec_lt a t)
  where
    by_side : Dec (a < t) → sub_ℕ (a + bias - t) bias ≡ sub_ℕ a t
    by_side (yes l) =
        sub_below (a + bias - t) bias (omega arith) ∙ ap negsuc (let q : bias - suc (a + bias - t) ≡ t - suc a = omega arith in q) ∙ sym (sub_below a t l)
    by_side (no l) =
        sub_above (a + bias - t) bias (omega arith) ∙ ap pos (let q : a + bias - t - bias ≡ a - t = omega arith in q) ∙ sym (sub_above a t (omega arith))

same_order : (a b c d : ℕ) → (a ≤ b → c ≤ d) → (c ≤ d → a ≤ b) → leb a b ≡ leb c d
same_order a b c d f g = same_test (leb a b) (leb c d) (λ e. le-leb c d (f (leb-true a b e))) (λ e. le-leb a b (g (leb-true c d e)))

-- less the same number, two numbers compare as before
pub compared : (m n k : ℕ) → leb m n ≡ le_z (sub_ℕ m k) (sub_ℕ n k)
compared m n k = by_sides (dec_lt m k) (dec_lt n k)
  where
    by_sides : Dec (m < k) → Dec (n < k) → leb m n ≡ le_z (sub_ℕ m k) (sub_ℕ n k)
    by_sides (yes p) (yes q) =
        same_order m n (k - suc n) (k - suc m) (λ h. omega arith) (λ h. omega arith) ∙ sym (ap₂ le_z (sub_below m k p) (sub_below n k q))
    by_sides (yes p) (no q) = le-leb m n (omega arith) ∙ sym (ap₂ le_z (sub_below m k p) (sub_above n k (omega arith)))
    by_sides (no p) (yes q) = lt-leb m n (omega arith) ∙ sym (ap₂ le_z (sub_above m k (omega arith)) (sub_below n k q))
    by_sides (no p) (no q) =
        same_order m n (m - k) (n - k) (λ h. omega arith) (λ h. omega arith)
        ∙ sym (ap₂ le_z (sub_above m k (omega arith)) (sub_above n k (omega arith)))

-- ---- how large the parts of a score are

module _ (f : Features) (b : Bounded f) where
  pub heuristic_adds_most : heuristic_adds f ≤ 16280
  heuristic_adds_most = omega arith

  pub heuristic-takes_most : heuristic_takes f ≤ heuristic_bias
  heuristic-takes_most = omega arith

  pub progress_adds_most : progress_adds f ≤ 131525
  progress_adds_most = omega arith

  pub progress-takes_most : progress_takes f ≤ progress_bias
  progress-takes_most = omega arith

  -- ---- the keys

  pub heuristic_key_lem : sub_ℕ (heuristic_key f) heuristic_bias ≡ heuristic f
  unfolding heuristic_key heuristic
  heuristic_key_lem = raised (heuristic_adds f) (heuristic_takes f) heuristic_bias (let t = heuristic-takes_most in omega arith)

  pub progress_key_lem : sub_ℕ (progress_key f) progress_bias ≡ progress f
  unfolding progress_key progress
  progress_key_lem = raised (progress_adds f) (progress_takes f) progress_bias (let t = progress-takes_most in omega arith)

pub heuristic-order : (f g : Features) → Bounded f → Bounded g → leb (heuristic_key f) (heuristic_key g) ≡ le_z (heuristic f) (heuristic g)
heuristic-order f g b c = compared (heuristic_key f) (heuristic_key g) heuristic_bias ∙ ap₂ le_z (heuristic_key_lem f b) (heuristic_key_lem g c)

pub progress-order : (f g : Features) → Bounded f → Bounded g → leb (progress_key f) (progress_key g) ≡ le_z (progress f) (progress g)
progress-order f g b c = compared (progress_key f) (progress_key g) progress_bias ∙ ap₂ le_z (progress_key_lem f b) (progress_key_lem g c)
