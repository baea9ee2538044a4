-- Demand 3, sentence by sentence: "Two masters never disagree."
-- Two controllers are two calls of corbelnib_judge on the same bytes. Whatever their budgets and flags, and whatever was lent to each:
-- any length of any part, holding anything.
use Rattle.std.specs.Prelude.{◌≡◌, Bool, true, false, ◌||◌, ℕ, ◌≤◌, eqb, ℤ, length}
use Rattle.std.specs.Int.Signed.{le_z}
use Rattle.crossing.specs.Numbers.{flag, is_answer}
use Rattle.corbelnib.specs.Calls.{replay, scores, judge, Call, capacity_in}
use Rattle.demands.specs.Demand2.{handed, Replays, end_of}
use Rattle.moves.specs.Written.{list_room}
use Rattle.solver.specs.Searched.{most_pops}

-- ---- what an answer is called

abbrev pub is_won : ℕ → Bool
is_won n = eqb n 0

-- with a best-progress list, or without
abbrev pub is_exhausted : ℕ → Bool
is_exhausted n = eqb n 2 || eqb n 4

-- after the limit, whether it ends won (5) or not (1), or after exhaustion
abbrev pub is_best_progress : ℕ → Bool
is_best_progress n = (eqb n 1 || eqb n 5) || eqb n 2

-- accepted: answered, and not refused
abbrev pub Accepted : Call judge → Type 0
Accepted c = is_answer c.number ≡ true

-- ---- two calls

abbrev pub SameBoard : Call judge → Call judge → Type 0
SameBoard x y = x.input.board ≡ y.input.board

-- the same list, byte for byte
pub record SameList (x y : Call judge) : Type 0 where
  pub moves : x.after.moves ≡ y.after.moves
  pub bytes : handed x ≡ handed y

-- the same number, count and list
pub record SameAnswer (x y : Call judge) : Type 0 where
  pub number : x.number ≡ y.number
  pub pops : x.after.pops ≡ y.after.pops
  pub list : SameList x y

-- y has no less budget and room than x, and the same flag
pub record NoLess (x y : Call judge) : Type 0 where
  pub board : SameBoard x y
  pub budget : x.input.budget ≤ y.input.budget
  pub room : capacity_in x.before ≤ capacity_in y.before
  pub flag : flag x.input.partial ≡ flag y.input.partial

-- the same settings
pub record SameSettings (x y : Call judge) : Type 0 where
  pub board : SameBoard x y
  pub budget : x.input.budget ≡ y.input.budget
  pub room : capacity_in x.before ≡ capacity_in y.before
  pub flag : flag x.input.partial ≡ flag y.input.partial

-- the final score of the list that a search brought, as a table asks for it: the list is replayed, and the board where it ends scored
pub record FinalScore (c : Call judge) : Type 0 where
  pub replayed : Call replay
  pub replays : Replays c replayed
  pub scored : Call scores
  pub there : scored.input ≡ end_of replayed

-- the progress score, the second of the two
abbrev pub score_of : {c : Call judge} → FinalScore c → ℤ
score_of s = s.scored.after.1

pub record Demand3 : Type 0 where
  -- "On one board no two accepted searches, whatever their budgets and capacities, give two winning lists, .."
  pub one_list : (x y : Call judge) → SameBoard x y → is_won x.number ≡ true → is_won y.number ≡ true → SameList x y
  -- ".. or won and exhausted;"
  pub not_both : (x y : Call judge) → SameBoard x y → is_won x.number ≡ true → is_exhausted y.number ≡ false
  -- "more budget and room keep won and exhausted as they were, ..": the number, the count and the list, for every call that is accepted;
  -- it is, if its budget is at most 1,000,000 and its list buffer has 1,000 bytes
  pub stays : (x y : Call judge) → NoLess x y → Accepted y → (is_won x.number || is_exhausted x.number) ≡ true → SameAnswer x y
  pub accepted : (x y : Call judge) → NoLess x y → Accepted x → y.input.budget ≤ most_pops → list_room ≤ length y.before.list → Accepted y
  -- ".. and never lower a best-progress score"
  pub score : (x y : Call judge) → NoLess x y → is_best_progress x.number ≡ true → is_best_progress y.number ≡ true
      → (s : FinalScore x) (t : FinalScore y) → le_z (score_of s) (score_of t) ≡ true
  -- So a fixed setting makes both controllers say one thing: with the same budget, capacity and flag two accepted searches give the same
  -- number, count and list, whatever their scratch held
  pub alike : (x y : Call judge) → SameSettings x y → Accepted x → Accepted y → SameAnswer x y
