-- Every promise of this crate allows one result and one content of the list (`write_down` and `write_line`: generate's `adds_once`).
use mathlib.Core.Path.{◌≡◌, ap₂}
use mathlib.Core.List.{List}
use Prim.Native.Nat.{ℕ}
use Rattle.base.proofs.Unique.{once}
use Rattle.board.specs.declared.Board.{Board}
use Rattle.moves.specs.declared.Move.{Move}
use Rattle.lines.specs.Written.{Writes}
use Rattle.lines.specs.declared.Written.{Written}

-- of `write_chain` and `write_step`
pub writes_once : {b : Board} {ms : List Move} {old new other : List ℕ} {n : ℕ} {r s : Written} → Writes b ms old new n r → Writes b ms old other n s
    → (new ≡ other) × (r ≡ s)
writes_once p q =
    (once p.adds.room q.adds.room, ap₂ (λ (d : Board) (k : ℕ). record { board = d; records = k }) (once p.board q.board) (once p.adds.many q.adds.many))
