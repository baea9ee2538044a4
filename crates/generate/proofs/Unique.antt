-- Every promise of this crate allows one result only.
use Rattle.board.proofs.Unique.{answered_once}
use Rattle.std.specs.Prelude.{Result}
use Rattle.board.specs.declared.Refusal.{Refusal}
use mathlib.Core.Path.{◌≡◌}
use mathlib.Core.List.{List}
use Prim.Native.Nat.{ℕ}
use Rattle.base.proofs.Unique.{once}
use Rattle.board.specs.declared.Board.{Board}
use Rattle.moves.specs.declared.Move.{Move}
use Rattle.moves.specs.Written.{Adds}
use Rattle.generate.specs.Asked.{Finds}

-- of `find` and the six entry points
pub find_once : {b : Board} {ms : List Move} {old new new' : List ℕ} {r r' : Result ℕ Refusal} → Finds b ms old new r → Finds b ms old new' r' → (new ≡ new') × (r ≡ r')
find_once p q = (once p.room q.room, answered_once p.told q.told)

-- of `find_at` and the functions under it
pub adds_once : {old new new' : List ℕ} {n r r' : ℕ} {ms : List Move} → Adds old new n r ms → Adds old new' n r' ms → (new ≡ new') × (r ≡ r')
adds_once p q = (once p.room q.room, once p.many q.many)
