-- The promise of this crate allows one result only.
use mathlib.Core.Path.{◌≡◌}
use mathlib.Core.List.{List}
use Prim.Native.Nat.{ℕ}
use Rattle.std.specs.Prelude.{Result}
use Rattle.base.proofs.Unique.{once}
use Rattle.board.specs.declared.Board.{Board}
use Rattle.sense.specs.declared.LineError.{LineError}
use Rattle.sense.proofs.Unique.{line_once}
use Rattle.writing.specs.Asked.{Writes}

-- of `write_line`
pub writes_once : {b : Board} {bytes old new new' : List ℕ} {r r' : Result ℕ LineError} → Writes b bytes old new r → Writes b bytes old new' r' → (new ≡ new') × (r ≡ r')
writes_once p q = (once p.room q.room, line_once p.told q.told)
