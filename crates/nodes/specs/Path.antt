-- A path in memory: the steps to a node, the last one first.
use Rattle.std.specs.Prelude.{◌≡◌, List, ◌++◌, ℕ, ◌≤◌, length, take, drop}
use Rattle.board.specs.Record.{shown, board_of}
use Rattle.board.specs.Inner.{Sound}
use Rattle.board.specs.declared.Board.{Board}
use Rattle.candidates.specs.Children.{child_table}
use Rattle.nodes.specs.Step.{move_in}
use Rattle.nodes.specs.Nodes.{AllMake, AllCost}

-- the steps were written at the start of the room, every other word is as it was, and r is their number
pub record Climbs (steps old new : List ℕ) (r : ℕ) : Type 0 where
  pub room : new ≡ steps ++ drop (length steps) old
  pub many : r ≡ length steps

-- a step was made on a board: it shows the table after the move and its chain
pub record Plays (b : Board) (step : ℕ) (r : Board) : Type 0 where
  pub board : r ≡ board_of (child_table (shown b) (move_in step))
  pub sound : Sound r

-- the first `deep` words of a path are steps that can be made from the root's board, the last one first, with their costs
pub record Leads (root : Board) (path : List ℕ) (deep : ℕ) : Type 0 where
  pub sound : Sound root
  pub fits : deep ≤ length path
  pub makes : AllMake (shown root) (take deep path)
  pub costs : AllCost (shown root) (take deep path)
