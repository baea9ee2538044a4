-- How long a text is: no text of at most 200 moves passes 999 bytes.
use mathlib.Core.Path.{◌≡◌, refl, ap}
use mathlib.Core.List.{List, [], ◌∷◌}
use Prim.Native.Nat.{suc, ◌≤◌}
use native.Mathlib.Omega.{arith}
use lib.ListN.{length}
use Rattle.board.specs.Table.{Table}
use Rattle.moves.specs.Play.{after_move}
use Rattle.moves.specs.declared.Move.{Move}
use Rattle.notation.specs.Jot.{line_text}
use Rattle.sense.specs.Meant.{jot_of}
use Rattle.sense.specs.Outcome.{most_moves}
use Rattle.writing.specs.Lines.{jots_of, text_of}
use Rattle.notation.proofs.Forming.{line_long}

pub jots_long : (t : Table) (ms : List Move) → length (jots_of t ms) ≡ length ms
unfolding jots_of
jots_long t [] = refl
jots_long t (m ∷ ms) = ap suc (jots_long (after_move t m) ms)

pub text_long : (t : Table) (ms : List Move) → length ms ≤ most_moves → length (text_of t ms) ≤ 999
unfolding text_of jots_of line_text
text_long t [] h = omega arith
text_long t (m ∷ ms) h =
    let l = (line_long (jot_of t m) (jots_of (after_move t m) ms)).1 in
    let n = jots_long (after_move t m) ms in
    omega arith
