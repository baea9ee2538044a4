-- Bytes that are a well-formed board, and what is asked of one.
use mathlib.Core.Path.{◌≡◌, ap, ◌∙◌}
use mathlib.Core.Bool.{Bool}
use mathlib.Core.List.{List}
use Prim.Native.Nat.{ℕ}
use borrow.Author.Tests.{eq-eqb}
use lib.ListN.{length, take}
use Rattle.base.specs.Answer.{Answer, refused, unless}
use Rattle.board.specs.Verdict.{Verdict, fine, after}
use Rattle.board.specs.Record.{examined}
use Rattle.board.specs.declared.Board.{Board}
use Rattle.board.proofs.Fair.{accepted_fair, fair_accepted}
use Rattle.crossing.specs.Wire.{board_in}
use Rattle.crossing.specs.Crossing.{asked}
use Rattle.crossing.proofs.Returning.{sized_in}
use Rattle.corbelnib.specs.Calls.{GoodBoard}

pub good_board : (bytes : List ℕ) → length bytes ≡ 432 → examined (board_in bytes) ≡ fine → GoodBoard bytes
good_board bytes e f = let a = accepted_fair (board_in bytes) (sized_in bytes e) f in record { long = e; shape = a.0; fair = a.1 }

pub good_fine : {bytes : List ℕ} → GoodBoard bytes → examined (board_in bytes) ≡ fine
good_fine {bytes} g = fair_accepted (board_in bytes) g.shape g.fair

-- who has sent one is asked further
pub good_asked : {A : Type 0} {bytes : List ℕ} (question : Board → Answer A) → GoodBoard bytes
    → asked bytes (λ b. after (examined b) (question b)) ≡ question (board_in bytes)
good_asked {A} {bytes} question g =
    ap (λ (ok : Bool). unless ok 12 (after (examined (board_in bytes)) (question (board_in bytes)))) (eq-eqb (length bytes) 432 g.long)
    ∙ ap (λ (v : Verdict). after v (question (board_in bytes))) (good_fine g)
