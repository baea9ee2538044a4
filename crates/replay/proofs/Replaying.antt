-- Replay as it is asked for: the refusals of the board and of the list, then the line; and a list after a list.
use Rattle.std.specs.Prelude.{Err, Ok, Result}
use mathlib.Core.Path.{◌≡◌, sym, ap, ◌∙◌}
use mathlib.Core.Bool.{Bool, true, false}
use mathlib.Core.List.{List}
use Prim.Native.Nat.{ℕ, ◌%◌, ◌≤◌}
use borrow.Author.Tests.{le-leb, eq-eqb, eqb-true}
use lib.Dec.{eqb, leb}
use lib.ListN.{length}
use Rattle.base.specs.Answer.{unless}
use Rattle.base.proofs.Words.{both, second}
use Rattle.board.specs.Verdict.{Verdict, fine, after}
use Rattle.board.specs.Record.{examined}
use Rattle.board.specs.Refusal.{number_of, answered}
use Rattle.board.specs.declared.Board.{Board}
use Rattle.board.specs.declared.Refusal.{Refusal}
use Rattle.moves.specs.Written.{list_room}
use Rattle.replay.specs.Line.{stopped, line_from, records_in, is_line, if_fine, replayed}

-- ---- when some bytes are a list of moves

module _ (bytes : List ℕ) where
  pub a_line : length bytes ≤ list_room → length bytes % 5 ≡ 0 → is_line bytes ≡ true
  unfolding is_line
  a_line h e = both (le-leb (length bytes) list_room h) (eq-eqb (length bytes % 5) 0 e)

  pub line_five : is_line bytes ≡ true → length bytes % 5 ≡ 0
  unfolding is_line
  line_five e = eqb-true (length bytes % 5) 0 (second (leb (length bytes) list_room) (eqb (length bytes % 5) 0) e)

-- ---- the refusals in their order

module _ (b : Board) (bytes : List ℕ) where
  on_verdict : {v : Verdict} → examined b ≡ v → replayed b bytes ≡ if_fine (after v (unless (is_line bytes) 31 fine)) b (line_from b (records_in bytes))
  unfolding replayed
  on_verdict e = ap (λ (v : Verdict). if_fine (after v (unless (is_line bytes) 31 fine)) b (line_from b (records_in bytes))) e

  module _ {r : Result (Unit {0}) Refusal} (e : answered r ≡ examined b) where
    pub bad_board : {why : Refusal} → r ≡ Err why → replayed b bytes ≡ stopped b (number_of why)
    bad_board q = on_verdict (sym e ∙ ap answered q)

    pub no_line : r ≡ Ok tt → is_line bytes ≡ false → replayed b bytes ≡ stopped b 31
    no_line q n = on_verdict (sym e ∙ ap answered q) ∙ ap (λ (ok : Bool). if_fine (unless ok 31 fine) b (line_from b (records_in bytes))) n

    pub good_line : r ≡ Ok tt → is_line bytes ≡ true → replayed b bytes ≡ line_from b (records_in bytes)
    good_line q y = on_verdict (sym e ∙ ap answered q) ∙ ap (λ (ok : Bool). if_fine (unless ok 31 fine) b (line_from b (records_in bytes))) y
