-- One move and replay allow one result only: what is said, the place, and every byte of the record beside it.
use Rattle.board.proofs.Unique.{answered_once}
use Rattle.std.specs.Prelude.{Result}
use Rattle.board.specs.declared.Refusal.{Refusal}
use mathlib.Core.Path.{◌≡◌, sym, ap, ap₂, ◌∙◌}
use Prim.Native.Nat.{ℕ}
use Rattle.base.specs.Answer.{Answer}
use Rattle.board.specs.declared.Board.{Board}
use Rattle.replay.specs.Line.{Ending}
use Rattle.replay.specs.Handed.{Moves, Ends}
use Rattle.replay.specs.declared.Replayed.{Replayed}

-- of `apply_record_to`
pub moved_once : {b c d : Board} {a : Answer Board} {r s : Result (Unit {0}) Refusal} → Moves b a r c → Moves b a s d → (r ≡ s) × (c ≡ d)
moved_once h k = (answered_once h.said k.said, h.board ∙ sym k.board)

pub replayed_once : {e : Ending} {r s : Replayed} → Ends e r → Ends e s → r ≡ s
replayed_once {r = r} {s = s} h k =
    ap₂ (λ (x : Result (Unit {0}) Refusal) (n : ℕ). record { said = x; moves = n; board = r.board }) (answered_once h.said k.said) (h.moves ∙ sym k.moves)
    ∙ ap (λ (c : Board). record { said = s.said; moves = s.moves; board = c }) (h.board ∙ sym k.board)
