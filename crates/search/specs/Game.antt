-- What the search knows of a game, and no more.
use Rattle.std.specs.Prelude.{◌≡◌, Bool, true, List, [], ◌∷◌, ◌++◌, ◌⊎◌, ℕ, ◌≤◌}

pub record Game : Type 1 where
  pub Board : Type 0
  pub Move : Type 0
  -- which boards count as the same
  pub same : Board → Board → Bool
  pub won : Board → Bool
  -- scores, raised to natural numbers
  pub heuristic : Board → ℕ
  pub progress : Board → ℕ
  -- the moves that can be tried, in order
  pub candidates : Board → List Move
  -- the child that a candidate makes: the moves that lead to it, and its board
  pub child_moves : Board → Move → List Move
  pub child_board : Board → Move → Board

-- x stands in a list
abbrev pub among : {A : Type 0} → A → List A → Type 0
among x [] = ⊥
among x (y ∷ l) = (x ≡ y) ⊎ among x l

-- the laws of a game that the theorems rest on: which boards are good, and when moves lead from one board to another
pub record Laws (G : Game) : Type 1 where
  pub Good : G.Board → Type 0
  pub Leads : G.Board → List G.Move → G.Board → Type 0
  pub none_leads : (b : G.Board) → Leads b [] b
  pub both_lead : {b c d : G.Board} {l m : List G.Move} → Leads b l c → Leads c m d → Leads b (l ++ m) d
  pub one_end : {b c d : G.Board} {l : List G.Move} → Leads b l c → Leads b l d → c ≡ d
  pub child_leads : (b : G.Board) (m : G.Move) → Good b → among m (G.candidates b) → Leads b (G.child_moves b m) (G.child_board b m)
  pub child_good : (b : G.Board) (m : G.Move) → Good b → among m (G.candidates b) → Good (G.child_board b m)
  -- a board counts as the same as itself
  pub same_self : (b : G.Board) → G.same b b ≡ true
  -- no good board has more progress than a won one
  pub won_most : (b c : G.Board) → Good b → Good c → G.won b ≡ true → G.progress c ≤ G.progress b
