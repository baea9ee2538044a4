-- Every promise of this crate allows one result, and one content of the lent words (`move_in` tells a move: moves' `decode_once`; the
-- others promise `r ≡ d`, which is `once`).
use mathlib.Core.Path.{◌≡◌}
use mathlib.Core.List.{List}
use Prim.Native.Nat.{ℕ}
use Rattle.base.proofs.Unique.{once}
use Rattle.board.specs.declared.Board.{Board}
use Rattle.moves.specs.declared.Move.{Move}
use Rattle.nodes.specs.Step.{Puts, Added}
use Rattle.nodes.specs.Path.{Climbs, Plays}

-- of `put` and `set_root`
pub puts_once : {old new other : List ℕ} {i parent step slot : ℕ} → Puts old new i parent step slot → Puts old other i parent step slot → new ≡ other
puts_once p q = once p.words q.words

-- of `add_node`
pub added_once : {old new other : List ℕ} {i parent cost slot : ℕ} {m : Move} → Added old new i parent m cost slot → Added old other i parent m cost slot
    → new ≡ other
added_once p q = puts_once p.puts q.puts

-- of `climb`
pub climbs_once : {steps old new other : List ℕ} {r s : ℕ} → Climbs steps old new r → Climbs steps old other s → (new ≡ other) × (r ≡ s)
climbs_once p q = (once p.room q.room, once p.many q.many)

-- of `play_step`
pub plays_once : {b r s : Board} {step : ℕ} → Plays b step r → Plays b step s → r ≡ s
plays_once p q = once p.board q.board
