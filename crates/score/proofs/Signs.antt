-- A difference of two natural numbers as the signed word that the code works out.
use mathlib.Core.Path.{◌≡◌, sym, ap, ◌∙◌, subst}
use Prim.Native.Nat.{ℕ, suc, ◌-◌, ◌^◌, ◌<◌, ◌≤◌}
use native.Mathlib.Nat.{lt_of_le_of_lt}
use native.Mathlib.Omega.{arith}
use native.Mathlib.Decide.{dec_lt}
use lib.Dec.{lit<}
use lib.IntN.{ℤ, sub_ℕ}
use mir.Syntax.{w64}
use mir.Val.{SFits, to_z, of_z, hbits}
use mir.Facts.{to_z-of_z}
use Rattle.features.specs.Features.{Bounded}
use Rattle.score.specs.Scores.{heuristic_adds, heuristic_takes, heuristic, progress_adds, progress_takes, progress}
use Rattle.features.specs.declared.Features.{Features}
use Rattle.score.proofs.Keys.{sub_below, sub_above, heuristic_adds_most, heuristic-takes_most, progress_adds_most, progress-takes_most}

small : (n : ℕ) → n ≤ 1000000 → n < 2 ^ hbits w64
small n h = lt_of_le_of_lt h (lit< tt)

-- a score passed on as a word
pub sub_fits : (a t : ℕ) → a ≤ 1000000 → t ≤ 1000000 → SFits w64 (sub_ℕ a t)
sub_fits a t h b = by_side (dec_lt a t)
  where
    by_side : Dec (a < t) → SFits w64 (sub_ℕ a t)
    by_side (yes l) = subst (SFits w64) (sym (sub_below a t l)) (record { sfits = small (t - suc a) (omega arith) })
    by_side (no l) = subst (SFits w64) (sym (sub_above a t (omega arith))) (record { sfits = small (a - t) (omega arith) })

pub passed_on : {z s : ℤ} → SFits w64 s → z ≡ s → to_z w64 (of_z w64 z) ≡ s
passed_on {z} {s} f e = ap (λ (y : ℤ). to_z w64 (of_z w64 y)) e ∙ to_z-of_z {w = w64} f

module _ (f : Features) (b : Bounded f) where
  pub heuristic_fits : SFits w64 (heuristic f)
  unfolding heuristic
  heuristic_fits =
      let a = heuristic_adds_most f b in
      let t = heuristic-takes_most f b in
      sub_fits (heuristic_adds f) (heuristic_takes f) (omega arith) (omega arith)

  pub progress_fits : SFits w64 (progress f)
  unfolding progress
  progress_fits =
      let a = progress_adds_most f b in
      let t = progress-takes_most f b in
      sub_fits (progress_adds f) (progress_takes f) (omega arith) (omega arith)
