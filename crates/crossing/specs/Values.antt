-- The calls that tell numbers behind pointers.
use Rattle.std.specs.Prelude.{List, [], ◌∷◌, ℕ, ℤ, length}
use Rattle.base.specs.Answer.{Answer}
use Rattle.signature.specs.Signed.{signature_asked}
use Rattle.priority.specs.Asked.{priority_asked}
use Rattle.score.specs.Scores.{heuristic, progress}
use Rattle.base.specs.Put.{over}
use Rattle.score.specs.Asked.{features_asked}
use Rattle.features.specs.declared.Features.{Features}
use Rattle.crossing.specs.Crossing.{Left, left, crossed, asked, within}

-- one number; behind the pointer of a refusal stays what was there
abbrev pub value_left : {A : Type 0} → Answer A → A → Left A
value_left a old = crossed a old (λ x. left 0 x)

-- the signature of a board
unfoldable pub signature_left : List ℕ → ℕ → Left ℕ
signature_left board old = value_left (asked board signature_asked) old

-- the priority of a move on a board
unfoldable pub priority_left : List ℕ → List ℕ → ℤ → Left ℤ
priority_left board bytes old = value_left (asked board (λ b. priority_asked b bytes)) old

-- the heuristic and the progress score of a board
unfoldable pub scores_left : List ℕ → ℤ → ℤ → Left (ℤ × ℤ)
scores_left board h p = crossed (asked board features_asked) (h, p) (λ f. left 0 (heuristic f, progress f))

-- ---- the seven features, at the start of lent room

abbrev pub feature_room : ℕ
feature_room = 7

-- in this order
abbrev pub numbers_of : Features → List ℕ
numbers_of f = f.home ∷ f.immediate ∷ f.blocked ∷ f.imbalance ∷ f.used ∷ f.empty ∷ f.longest ∷ []

-- 21 for room under seven numbers
unfoldable pub numbers_left : Answer Features → List ℕ → Left (List ℕ)
numbers_left a room = crossed (within feature_room (length room) a) room (λ f. left 0 (over (numbers_of f) room))

-- the features of a board
unfoldable pub features_left : List ℕ → List ℕ → Left (List ℕ)
features_left board room = numbers_left (asked board features_asked) room
