-- What the inner functions ask before they offer a move.
use Rattle.std.specs.Prelude.{◌≡◌, List, ℕ, suc, ◌<◌, ◌≤◌, Some}
use Rattle.base.specs.Words.{listed}
use Rattle.card.specs.declared.Card.{Card}
use Rattle.board.specs.Table.{Table}
use Rattle.board.specs.Record.{column_at, shown}
use Rattle.board.specs.Inner.{Sound}
use Rattle.board.specs.declared.Board.{Board}
use Rattle.questions.specs.Questions.{top_of}
use Rattle.runs.specs.Run.{run_length}
use Rattle.rules.specs.Limit.{most_moved}
use Rattle.moves.specs.Play.{there}
use Rattle.moves.specs.declared.Move.{Move}
use Rattle.generate.specs.Found.{source_count, target_count, source, offered, if_allowed}
use Rattle.generate.specs.declared.Way.{Way}
use Rattle.generate.specs.declared.Way.TheVariants.{ColumnToColumn}

-- a move of one card from place i to place j: the card is the last there
pub record Offers (b : Board) (w : Way) (i j : ℕ) (c : Card) : Type 0 where
  pub sound : Sound b
  pub single : w ≡ ColumnToColumn → ⊥
  pub leaves : i < source_count w
  pub goes : j < target_count w
  pub top : top_of (there (shown b) (source w i)) ≡ Some c

-- a move of k + 1 cards from column i to another: they are a run, and within the limit
pub record Reaches (b : Board) (i j k : ℕ) : Type 0 where
  pub sound : Sound b
  pub leaves : i < 8
  pub goes : j < 8
  pub other : i ≡ j → ⊥
  pub run : k < run_length (column_at b.counts b.tableau i)
  pub limit : k < most_moved b.cells (listed 8 (column_at b.counts b.tableau)) j

-- the moves of k + 1 cards between two columns: one if it is allowed
abbrev pub tried_run : Table → ℕ → ℕ → ℕ → List Move
tried_run t i j k = if_allowed t (offered t ColumnToColumn i j (suc k))

-- runs of up to so many cards from column i to another: within the run and the limit
pub record Between (b : Board) (i j last : ℕ) : Type 0 where
  pub sound : Sound b
  pub leaves : i < 8
  pub goes : j < 8
  pub other : i ≡ j → ⊥
  pub run : last ≤ run_length (column_at b.counts b.tableau i)
  pub limit : last ≤ most_moved b.cells (listed 8 (column_at b.counts b.tableau)) j
