-- Every promise of this crate allows one result only: `child_to` (`child_once`); of what `tried` and `ordered` list, generate's `find_once` and moves'
-- `adds_once`.
use mathlib.Core.Path.{◌≡◌}
use Prim.Native.Nat.{ℕ}
use Rattle.base.proofs.Unique.{once}
use Rattle.board.specs.declared.Board.{Board}
use Rattle.moves.specs.declared.Move.{Move}
use Rattle.candidates.specs.Inner.{Bears}

-- of `child_to`
pub child_once : {b : Board} {m : Move} {n n' : ℕ} {c c' : Board} → Bears b m n c → Bears b m n' c' → (n ≡ n') × (c ≡ c')
child_once p q = (once p.many q.many, once p.becomes q.becomes)
