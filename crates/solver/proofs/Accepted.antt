-- The order of the refusals, evaluated where several hold at once: the board's, then 20, 21, 22.
use mathlib.Core.Path.{◌≡◌}
use Prim.Native.Nat.{ℕ}
use Rattle.base.specs.Answer.{refused}
use Rattle.board.specs.Verdict.{fine}
use Rattle.board.specs.Record.{examined}
use Rattle.board.specs.declared.Board.{Board}
use Rattle.solver.specs.Searched.{accepted}

pub board_before_20 : (b : Board) (n : ℕ) → examined b ≡ refused n → accepted b 1000001 0 0 ≡ refused n
unfolding accepted
board_before_20 b n e = rw e

module _ (b : Board) (ok : examined b ≡ fine) where
  pub 20-before-21 : accepted b 1000001 0 0 ≡ refused 20
  unfolding accepted
  20-before-21 = rw ok

  pub 21-before-22 : accepted b 1000000 0 999 ≡ refused 21
  unfolding accepted
  21-before-22 = rw ok

  pub 22-last : accepted b 1000000 0 1000 ≡ refused 22
  unfolding accepted
  22-last = rw ok

  pub none_refused : accepted b 1000000 1 1000 ≡ fine
  unfolding accepted
  none_refused = rw ok
