-- What the inner functions of the search ask and promise.
use Rattle.board.specs.Refusal.{answered}
use Rattle.board.specs.declared.Refusal.{Refusal}
use Rattle.std.specs.Prelude.{◌≡◌, ℕ, ◌≤◌, length, Ok, Result}
use Rattle.board.specs.Inner.{Sound}
use Rattle.board.specs.declared.Board.{Board}
use Rattle.memory.specs.declared.Room.{Room}
use Rattle.memory.specs.Memory.{Memory, Fits}
use Rattle.solver.specs.Searched.{accepted}

-- there is room for at least one node, and for the entries of the table
pub record Roomy (r : Room) (m : Memory) : Type 0 where
  pub room : Fits r m
  pub some : 1 ≤ r.capacity
  pub most : r.entries ≤ 4294967296
  pub keyed : r.entries ≤ length m.keys
  pub costed : r.entries ≤ length m.costs

-- a search is accepted or refused; if it is accepted, all that it asks holds
pub record Accepts (b : Board) (budget capacity lent : ℕ) (r : Result (Unit {0}) Refusal) : Type 0 where
  pub told : answered r ≡ accepted b budget capacity lent
  pub sound : r ≡ Ok tt → Sound b
  pub affordable : r ≡ Ok tt → budget ≤ 1000000
  pub listed : r ≡ Ok tt → 1000 ≤ lent
  pub some : r ≡ Ok tt → 1 ≤ capacity
