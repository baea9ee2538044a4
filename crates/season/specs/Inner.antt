-- What the functions ask and promise, a record each.
use Rattle.board.specs.Refusal.{answered}
use Rattle.board.specs.declared.Refusal.{Refusal}
use Rattle.std.specs.Prelude.{◌≡◌, Bool, List, ℕ, ◌≤◌, Ok, Result}
use Rattle.memory.specs.Memory.{lent}
use Rattle.memory.specs.declared.Room.{Room}
use Rattle.solver.specs.Inner.{Roomy}
use Rattle.sheets.specs.Over.{Settings}
use Rattle.sheets.specs.Promises.{said_of}
use Rattle.season.specs.Season.{Lent, left_by, season_asked, season_in}

-- what a season was asked for
abbrev pub settings_of : ℕ → ℕ → Bool → Settings
settings_of budget capacity partial = record { budget = budget; capacity = capacity; partial = partial }

-- a run of deals that can be judged: both ends are numbers, the budget is one, the scratch has room
pub record Playable (first last budget : ℕ) (r : Room) (nodes heap keys costs : List ℕ) : Type 0 where
  pub low : 1 ≤ first
  pub high : last ≤ 32000
  pub cheap : budget ≤ 1000000
  pub room : Roomy r (lent nodes heap keys costs)

-- a season is accepted or refused; if it is accepted, all that it asks holds
pub record Accepts (first last budget capacity words : ℕ) (r : Result (Unit {0}) Refusal) : Type 0 where
  pub told : (partial : Bool) → answered r ≡ said_of (season_asked first last (settings_of budget capacity partial) words)
  pub low : r ≡ Ok tt → 1 ≤ first
  pub high : r ≡ Ok tt → last ≤ 32000
  pub cheap : r ≡ Ok tt → budget ≤ 1000000
  pub wide : r ≡ Ok tt → 716 ≤ words
  pub some : r ≡ Ok tt → 1 ≤ capacity

-- what is said, and what is left in every lent place
pub record Leaves (old new : Lent) (first last budget : ℕ) (partial : Bool) (r : Result (Unit {0}) Refusal) : Type 0 where
  pub said : answered r ≡ said_of (season_in old first last budget partial)
  pub left : new ≡ left_by old (season_in old first last budget partial)
