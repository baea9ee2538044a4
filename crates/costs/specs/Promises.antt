-- What the functions promise, a record each.
use Rattle.std.specs.Prelude.{◌≡◌, true, false, cond, List, ℕ, ◌+◌, ◌<◌, ◌≤◌, length, set}
use Rattle.costs.specs.declared.Slot.{Slot}
use Rattle.costs.specs.declared.Slot.TheVariants.{At, Free, Full}
use Rattle.costs.specs.Entries.{is_used, holds, cost_at}
use Rattle.costs.specs.CostIn.{unknown, known, cost_in}
use Rattle.costs.specs.Table.{Reached, Table}

-- ---- a straight part of the way

pub record Part (keys costs : List ℕ) (from end : ℕ) : Type 0 where
  pub rising : from ≤ end
  pub keyed : end ≤ length keys
  pub costed : end ≤ length costs

-- the entries from one to before another are used, and none of them is for k
pub record Passed (keys costs : List ℕ) (from i k : ℕ) : Type 0 where
  pub low : from ≤ i
  pub taken : (j : ℕ) → from ≤ j → j < i → is_used costs j ≡ true
  pub others : (j : ℕ) → from ≤ j → j < i → holds keys costs j k ≡ false

-- i is the first entry of the part that is free or for k, or the part's end
pub record Scans (keys costs : List ℕ) (from end k i : ℕ) : Type 0 where
  pub high : i ≤ end
  pub passed : Passed keys costs from i k
  pub own : i < end → is_used costs i ≡ true → holds keys costs i k ≡ true

-- what a place is to the table
abbrev pub slot_at : List ℕ → ℕ → Slot
slot_at costs i = cond (is_used costs i) (At i) (Free i)

-- ---- finding

-- entry i is k's, or is free and the one to be k's
pub record Place (keys costs : List ℕ) (n k i : ℕ) : Type 0 where
  pub within : i < n
  pub own : is_used costs i ≡ true → holds keys costs i k ≡ true
  pub alone : (j : ℕ) → j < n → holds keys costs j k ≡ true → j ≡ i
  pub reached : Reached costs n k i

pub record Held (keys costs : List ℕ) (n k i : ℕ) : Type 0 where
  pub place : Place keys costs n k i
  pub here : holds keys costs i k ≡ true
  pub best : cost_in keys costs n k ≡ known (cost_at costs i)

pub record Vacant (keys costs : List ℕ) (n k i : ℕ) : Type 0 where
  pub place : Place keys costs n k i
  pub free : is_used costs i ≡ false
  pub none : cost_in keys costs n k ≡ unknown

pub record Crowded (keys costs : List ℕ) (n k : ℕ) : Type 0 where
  pub taken : (j : ℕ) → j < n → is_used costs j ≡ true
  pub none : cost_in keys costs n k ≡ unknown

pub record Finds (keys costs : List ℕ) (n k : ℕ) (r : Slot) : Type 0 where
  pub held : (i : ℕ) → r ≡ At i → Held keys costs n k i
  pub vacant : (i : ℕ) → r ≡ Free i → Vacant keys costs n k i
  pub crowded : r ≡ Full → Crowded keys costs n k

-- ---- storing

-- X and Y are what keys and costs have become
pub record Stores (keys costs X Y : List ℕ) (n i k c : ℕ) : Type 0 where
  pub keyed : X ≡ set keys i k
  pub costed : Y ≡ set costs i (c + 1)
  pub table : Table X Y n
  pub best : cost_in X Y n k ≡ known c
  pub others : (j : ℕ) → (j ≡ k → ⊥) → cost_in X Y n j ≡ cost_in keys costs n j
