-- What the inner functions make of a record: it shows a given table, and its columns are good.
use Rattle.std.specs.Prelude.{◌≡◌, List, [], ◌∷◌, ◌++◌, ℕ, ◌+◌, ◌≤◌, ◌<◌, length, get_or, true}
use Rattle.board.specs.Table.{Table}
use Rattle.board.specs.Record.{shown, laid}
use Rattle.board.specs.Inner.{GoodColumns, Sound}
use Rattle.board.specs.declared.Board.{Board}
use Rattle.moves.specs.Move.{sayable}
use Rattle.moves.specs.declared.Place.TheVariants.{Column as column}
use Rattle.moves.specs.Play.{put, there, others_of, last_of, allowed}
use Rattle.moves.specs.declared.Move.{Move}

-- the record shows the table, with good columns
pub record Becomes (r : Board) (t : Table) : Type 0 where
  pub shows : shown r ≡ t
  pub good : GoodColumns r.counts r.tableau

-- n places from `at` are zero, the others as they were
pub record Cleared (old new : List ℕ) (at n : ℕ) : Type 0 where
  pub long : length new ≡ length old
  pub zero : (k : ℕ) → k < n → get_or new (at + k) 0 ≡ 0
  pub below : (p : ℕ) → p < at → get_or new p 0 ≡ get_or old p 0
  pub above : (p : ℕ) → at + n ≤ p → get_or new p 0 ≡ get_or old p 0

-- n places from `to` hold what stood from `from` on, the others what they held
pub record Copied (old new : List ℕ) (from to n : ℕ) : Type 0 where
  pub long : length new ≡ length old
  pub same : (k : ℕ) → k < n → get_or new (to + k) 0 ≡ get_or old (from + k) 0
  pub below : (p : ℕ) → p < to → get_or new p 0 ≡ get_or old p 0
  pub above : (p : ℕ) → to + n ≤ p → get_or new p 0 ≡ get_or old p 0

-- one column of a board is other cards now, whatever lies in its cells and on its foundations
pub record Changes (counts tableau new_counts new_tableau : List ℕ) (i : ℕ) (cards : Table → List ℕ) : Type 0 where
  pub becomes : (cells foundation : List ℕ)
      → Becomes (laid cells foundation new_counts new_tableau)
      (put (shown (laid cells foundation counts tableau)) (column i)
      (cards (shown (laid cells foundation counts tableau))))

-- one card more lies on column i
abbrev pub Lays : List ℕ → List ℕ → List ℕ → List ℕ → ℕ → ℕ → Type 0
Lays counts tableau new_counts new_tableau i code =
    Changes counts tableau new_counts new_tableau i (λ t. there t (column i) ++ (code ∷ []))

-- the top n cards of column i are gone
abbrev pub Drops : List ℕ → List ℕ → List ℕ → List ℕ → ℕ → ℕ → Type 0
Drops counts tableau new_counts new_tableau i n = Changes counts tableau new_counts new_tableau i (λ t. others_of n (there t (column i)))

-- the top n cards of column s lie on column d too
abbrev pub Doubles : List ℕ → List ℕ → List ℕ → List ℕ → ℕ → ℕ → ℕ → Type 0
Doubles counts tableau new_counts new_tableau s d n =
    Changes counts tableau new_counts new_tableau d (λ t. there t (column d) ++ last_of n (there t (column s)))

-- a move that may be played on a record
pub record Ready (b : Board) (m : Move) : Type 0 where
  pub sound : Sound b
  pub said : sayable m ≡ true
  pub allows : allowed (shown b) m ≡ true
