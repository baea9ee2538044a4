-- A written move taken: refused, or played with its record written.
use Rattle.std.specs.Prelude.{Err, Result, Ok}
use mathlib.Core.Path.{◌≡◌, refl, sym, ap, ◌∙◌, subst}
use mathlib.Core.Bool.{true}
use mathlib.Core.List.{List, [], ◌∷◌}
use Prim.Native.Nat.{ℕ}
use Rattle.base.specs.Answer.{Answer, given, refused}
use Rattle.board.specs.Verdict.{Verdict, fine, after}
use Rattle.board.specs.Record.{shown}
use Rattle.board.specs.Inner.{Sound}
use Rattle.board.specs.declared.Board.{Board}
use Rattle.board.specs.Refusal.{number_of}
use Rattle.board.specs.declared.Refusal.{Refusal}
use Rattle.board.proofs.Fair.{shows_fair}
use Rattle.moves.specs.Move.{sayable}
use Rattle.moves.specs.Play.{after_move}
use Rattle.moves.specs.Causes.{ruling}
use Rattle.moves.specs.Written.{Adds}
use Rattle.moves.specs.declared.Move.{Move}
use Rattle.moves.proofs.Ruling.{fine-allowed}
use Rattle.play.specs.Change.{Becomes}
use Rattle.replay.proofs.Stepping.{became, sound_after}
use Rattle.notation.specs.Jot.{WellMade}
use Rattle.sense.specs.Meant.{meant}
use Rattle.reading.specs.Lines.{ruled}
use Rattle.reading.specs.Inner.{Took, TookOrNot, Takes}
use Rattle.notation.specs.declared.Jot.{Jot}
use Rattle.sense.proofs.Meaning.{meant_said}

module _ {b : Board} (s : Sound b) (m : Move) where
  pub make_yes : sayable m ≡ true → ruling (shown b) m ≡ fine → {c : Board} → Becomes c (after_move (shown b) m)
      → {old new : List ℕ} {n r : ℕ} → Adds old new n r (m ∷ []) → Took b c (given m) old new n
  make_yes said e {c} g a =
      record {
        move = m;
        rules = ap (λ (v : Verdict). after v (given m)) e;
        shows = g.shows;
        sound = subst Sound (became g) (sound_after b s m said (fine-allowed (shown b) m e));
        adds = record { room = a.room; many = refl };
      }

  pub take_said : (j : Jot) → WellMade j → {a : Answer Move} → a ≡ meant (shown b) j → a ≡ given m → sayable m ≡ true
  take_said j w e f = (meant_said (shown b) j (shows_fair s) w (sym e ∙ f)).said

module _ {b c : Board} {old new : List ℕ} {n : ℕ} {r : Result (Unit {0}) Refusal} {a : Answer Move} (t : Takes b c a old new n r) where
  pub took_yes : r ≡ Ok tt → Took b c a old new n
  took_yes e = subst (TookOrNot b c a old new n) e t.told

  pub took_no : {why : Refusal} → r ≡ Err why → ruled (shown b) a ≡ refused (number_of why)
  took_no e = subst (TookOrNot b c a old new n) e t.told
