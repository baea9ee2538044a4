-- Every promise of this crate allows one result only (see card's `Unique`; the inner forms' promises are `r ≡ d`, or `Puts`).
use Rattle.board.specs.declared.Refusal.{Refusal}
use Rattle.std.specs.Prelude.{Result}
use mathlib.Core.Path.{◌≡◌}
use mathlib.Core.List.{List}
use Prim.Native.Nat.{ℕ}
use Rattle.base.proofs.Unique.{once}
use Rattle.board.specs.declared.Board.{Board}
use Rattle.board.proofs.Unique.{answered_once}
use Rattle.base.specs.Put.{Puts}
use Rattle.score.specs.Asked.{Writes}

-- of `progress_token`: the number told and the room left
pub writes_once : {b : Board} {old new other : List ℕ} {r s : Result ℕ Refusal} → Writes b old new r → Writes b old other s → (r ≡ s) × (new ≡ other)
writes_once p q = (answered_once p.told q.told, once p.room q.room)

-- of the inner forms that put bytes at a place
pub puts_once : {old new other : List ℕ} {at r t : ℕ} {s : List ℕ} → Puts old new at r s → Puts old other at t s → (r ≡ t) × (new ≡ other)
puts_once p q = (once p.after q.after, once p.room q.room)
