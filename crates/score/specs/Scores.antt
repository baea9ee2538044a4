-- The heuristic and the progress score: signed numbers, each what adds to it less what takes away.
use Rattle.std.specs.Prelude.{ℕ, ◌+◌, ◌-◌, ◌*◌, ℤ}
use Rattle.std.proofs.Math.IntN.{sub_ℕ}
use Rattle.score.specs.Weights.{HEURISTIC_FOUNDATION_REMAINING_WEIGHT, HEURISTIC_FREE_USED_PENALTY, HEURISTIC_LOW_BLOCKED_PENALTY, HEURISTIC_FOUNDATION_IMBALANCE_PENALTY, HEURISTIC_EMPTY_TABLEAU_BONUS, HEURISTIC_LONGEST_RUN_BONUS, HEURISTIC_IMMEDIATE_FOUNDATION_BONUS, PROGRESS_FOUNDATION_WEIGHT, PROGRESS_IMMEDIATE_FOUNDATION_WEIGHT, PROGRESS_EMPTY_TABLEAU_BONUS, PROGRESS_LONGEST_RUN_BONUS, PROGRESS_FREE_USED_PENALTY, PROGRESS_LOW_BLOCKED_PENALTY}
use Rattle.features.specs.declared.Features.{Features}

abbrev pub heuristic_adds : Features → ℕ
heuristic_adds f =
    (52 - f.home) * HEURISTIC_FOUNDATION_REMAINING_WEIGHT
    + f.used * HEURISTIC_FREE_USED_PENALTY
    + f.blocked * HEURISTIC_LOW_BLOCKED_PENALTY
    + f.imbalance * HEURISTIC_FOUNDATION_IMBALANCE_PENALTY

abbrev pub heuristic_takes : Features → ℕ
heuristic_takes f =
    f.empty * HEURISTIC_EMPTY_TABLEAU_BONUS
    + f.longest * HEURISTIC_LONGEST_RUN_BONUS
    + f.immediate * HEURISTIC_IMMEDIATE_FOUNDATION_BONUS

unfoldable pub heuristic : Features → ℤ
heuristic f = sub_ℕ (heuristic_adds f) (heuristic_takes f)

abbrev pub progress_adds : Features → ℕ
progress_adds f =
    f.home * PROGRESS_FOUNDATION_WEIGHT
    + f.immediate * PROGRESS_IMMEDIATE_FOUNDATION_WEIGHT
    + f.empty * PROGRESS_EMPTY_TABLEAU_BONUS
    + f.longest * PROGRESS_LONGEST_RUN_BONUS

abbrev pub progress_takes : Features → ℕ
progress_takes f = f.used * PROGRESS_FREE_USED_PENALTY + f.blocked * PROGRESS_LOW_BLOCKED_PENALTY

unfoldable pub progress : Features → ℤ
progress f = sub_ℕ (progress_adds f) (progress_takes f)

-- the same as natural numbers, raised so that no well-formed board goes below 0: the search compares these
abbrev pub heuristic_bias : ℕ
heuristic_bias = 239

unfoldable pub heuristic_key : Features → ℕ
heuristic_key f = heuristic_adds f + heuristic_bias - heuristic_takes f

abbrev pub progress_bias : ℕ
progress_bias = 12152

unfoldable pub progress_key : Features → ℕ
progress_key f = progress_adds f + progress_bias - progress_takes f
