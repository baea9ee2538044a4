-- A node in lent memory is three words: its parent's number, its step (the first move and the node's cost), and its entry in the
-- table of costs. Of the moves that led to it from its parent only the first is kept: the safe chain after it is derived again.
use Rattle.std.specs.Prelude.{◌≡◌, List, [], ◌∷◌, ℕ, ◌+◌, ◌*◌, ◌/◌, ◌%◌, ◌<◌, get_or, set}
use Rattle.moves.specs.Record.{move_of, record_of}
use Rattle.moves.specs.declared.Move.{Move}

-- ---- a step: kind, from, to, count, code of the deepest card, cost, as digits of one number below 2^29

-- the numbers of a record that are such digits
pub record Small (r : List ℕ) : Type 0 where
  pub kind : get_or r 0 0 < 8
  pub from : get_or r 1 0 < 8
  pub to : get_or r 2 0 < 8
  pub count : get_or r 3 0 < 16
  pub code : get_or r 4 0 < 256

unfoldable pub step_of : List ℕ → ℕ → ℕ
step_of r cost =
    ((((get_or r 0 0 * 8 + get_or r 1 0) * 8 + get_or r 2 0) * 16 + get_or r 3 0) * 256 + get_or r 4 0) * 256 + cost

-- the step of a move that leads to a cost
unfoldable pub step_word : Move → ℕ → ℕ
step_word m cost = step_of (record_of m) cost

-- the record of a step's move
unfoldable pub record_in : ℕ → List ℕ
record_in w = w / 67108864 ∷ w / 8388608 % 8 ∷ w / 1048576 % 8 ∷ w / 65536 % 16 ∷ w / 256 % 256 ∷ []

unfoldable pub move_in : ℕ → Move
move_in w = move_of (record_in w)

unfoldable pub cost_in : ℕ → ℕ
cost_in w = w % 256

-- ---- the words of node i

unfoldable pub parent_at : List ℕ → ℕ → ℕ
parent_at words i = get_or words (i * 3) 0

unfoldable pub step_at : List ℕ → ℕ → ℕ
step_at words i = get_or words (i * 3 + 1) 0

unfoldable pub slot_at : List ℕ → ℕ → ℕ
slot_at words i = get_or words (i * 3 + 2) 0

unfoldable pub move_at : List ℕ → ℕ → Move
move_at words i = move_in (step_at words i)

unfoldable pub cost_at : List ℕ → ℕ → ℕ
cost_at words i = cost_in (step_at words i)

-- the words of node i were set, and every other is as it was
pub record Puts (old new : List ℕ) (i parent step slot : ℕ) : Type 0 where
  pub words : new ≡ set (set (set old (i * 3) parent) (i * 3 + 1) step) (i * 3 + 2) slot

-- node i was made of its parent, the first move from there, its cost and its entry
pub record Added (old new : List ℕ) (i parent : ℕ) (m : Move) (cost slot : ℕ) : Type 0 where
  pub puts : Puts old new i parent (step_word m cost) slot
