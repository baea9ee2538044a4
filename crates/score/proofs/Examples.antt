-- Known hand P2 of SCOPE.md, by computation: board S, all home but the spade king, which lies alone in column 0.
use mathlib.Core.Path.{◌≡◌, refl, ap}
use mathlib.Core.List.{[], ◌∷◌}
use lib.IntN.{pos}
use Rattle.base.specs.Words.{sum, concat}
use Rattle.board.specs.Table.{Table, held}
use Rattle.questions.specs.Questions.{home_count, empty_columns}
use Rattle.rules.specs.Fit.{home_takes}
use Rattle.runs.specs.Run.{is_run, run_length}
use Rattle.features.specs.Features.{greatest, least, last_goes_home, immediate_on, blocked_in, blocked_on, imbalance_of, cells_used, longest_run, features_of}
use Rattle.score.specs.Scores.{heuristic, progress}
use Rattle.score.specs.Token.{digits_in, decimal, token_of}

abbrev S : Table
S =
    record {
      cells = 255 ∷ 255 ∷ 255 ∷ 255 ∷ [];
      foundation = 13 ∷ 13 ∷ 13 ∷ 12 ∷ [];
      columns = (211 ∷ []) ∷ [] ∷ [] ∷ [] ∷ [] ∷ [] ∷ [] ∷ [] ∷ [];
    }

pub P2_features : features_of S ≡ record { home = 51; immediate = 1; blocked = 0; imbalance = 1; used = 0; empty = 7; longest = 1 }
unfolding features_of home_count immediate_on last_goes_home home_takes held blocked_on blocked_in imbalance_of greatest least cells_used empty_columns longest_run run_length is_run sum
P2_features = refl

pub P2-heuristic : heuristic (features_of S) ≡ pos 29
unfolding heuristic
P2-heuristic = ap heuristic P2_features

pub P2-progress : progress (features_of S) ≡ pos 128275
unfolding progress
P2-progress = ap progress P2_features

-- f:51|i:1|u:0|e:7|r:1|b:0|m:1
pub P2_token : token_of (features_of S)
    ≡ 102 ∷ 58 ∷ 53 ∷ 49 ∷ 124 ∷ 105 ∷ 58 ∷ 49 ∷ 124 ∷ 117 ∷ 58 ∷ 48 ∷ 124 ∷ 101 ∷ 58 ∷ 55 ∷ 124 ∷ 114 ∷ 58 ∷ 49 ∷ 124 ∷ 98 ∷ 58 ∷ 48 ∷ 124 ∷ 109 ∷ 58 ∷ 49 ∷ []
unfolding token_of decimal digits_in concat
P2_token = ap token_of P2_features

-- the fewest and the most digits of a feature
pub digits_0 : decimal 0 ≡ 48 ∷ []
unfolding decimal digits_in
digits_0 = refl

pub digits_546 : decimal 546 ≡ 53 ∷ 52 ∷ 54 ∷ []
unfolding decimal digits_in
digits_546 = refl
