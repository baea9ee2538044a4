-- The promise of `chain_to` allows one result only (the entry points': board's `answered_once`; the other inner forms promise `r ≡ d`).
use mathlib.Core.Path.{◌≡◌, sym, ◌∙◌}
use Prim.Native.Nat.{ℕ}
use Rattle.board.specs.declared.Board.{Board}
use Rattle.safe.specs.Asked.{Runs}

-- of `chain_to`
pub runs_once : {b c c' : Board} {n n' : ℕ} → Runs b c n → Runs b c' n' → (c ≡ c') × (n ≡ n')
runs_once h k = (h.ends ∙ sym k.ends, h.many ∙ sym k.many)
