-- Moves and the token in lent room, with their number behind a pointer.
use Rattle.board.specs.Refusal.{number_of, answered}
use Rattle.std.specs.Prelude.{Result, Err, Option, None}
use Rattle.board.specs.declared.Refusal.{Refusal}
use Rattle.board.specs.declared.Refusal.TheVariants.{OutOfRange}
use Rattle.board.specs.Table.{Table}
use Rattle.generate.specs.declared.Way.{Way}
use mathlib.Core.Path.{◌≡◌, refl, sym, ap, ap₂, ◌∙◌}
use mathlib.Core.Bool.{Bool, true, false}
use mathlib.Core.List.{List}
use Prim.Native.Nat.{ℕ}
use lib.Dec.{leb}
use lib.ListN.{length}
use Rattle.base.specs.Answer.{Answer, given, refused, unless, given_or}
use Rattle.board.specs.Verdict.{Verdict, after}
use Rattle.board.specs.Record.{examined, shown}
use Rattle.board.specs.declared.Board.{Board}
use Rattle.moves.specs.declared.Move.{Move}
use Rattle.generate.specs.Asked as generate
use Rattle.score.specs.Asked as score
use Rattle.features.specs.Features.{features_of}
use Rattle.score.specs.Token.{token_of}
use Rattle.crossing.specs.Crossing.{Left, left, crossed, within}
use Rattle.crossing.specs.Lists.{list_left, way_asked, found_by, text_left}
use Rattle.crossing.specs.Values.{value_left}
use Rattle.moves.specs.Written.{written}
use Rattle.base.specs.Put.{over}

-- what was told, and the room beside it
both : Left ℕ → List ℕ → Left (List ℕ × ℕ)
both l room = left l.number (room, l.places)

-- an answer that fills the room with w and counts n, or leaves it
module _ {A : Type 0} (a : A) (f : A → Left (List ℕ × ℕ)) (need n c : ℕ) (old w : List ℕ) (is : f a ≡ left {A = List ℕ × ℕ} 0 (w, n))
    (room_by : Answer ℕ → List ℕ) (yes : room_by (given n) ≡ w) (no : (m : ℕ) → room_by (refused m) ≡ old) where
  by_test : (t : Bool) → both (value_left (unless t 21 (given n)) c) (room_by (unless t 21 (given n))) ≡ crossed (unless t 21 (given a)) (old, c) f
  unfolding both
  by_test true = ap (λ (l : List ℕ). left {A = List ℕ × ℕ} 0 (l, n)) yes ∙ sym is
  by_test false = ap (λ (l : List ℕ). left {A = List ℕ × ℕ} 21 (l, c)) (no 21)

  by_verdict : (v : Verdict)
      → both (value_left (after v (unless (leb need (length old)) 21 (given n))) c) (room_by (after v (unless (leb need (length old)) 21 (given n))))
      ≡ crossed (within need (length old) (after v (given a))) (old, c) f
  unfolding both
  by_verdict (given u) = by_test (leb need (length old))
  by_verdict (refused m) = ap (λ (l : List ℕ). left {A = List ℕ × ℕ} m (l, c)) (no m)

module _ {b : Board} {old new : List ℕ} {r : Result ℕ Refusal} {k d : ℕ} (c : ℕ) (t : left k d ≡ value_left (answered r) c) where
  pub list_left_lem : {ms : List Move} → generate.Finds b ms old new r → left {A = List ℕ × ℕ} k (new, d) ≡ list_left (after (examined b) (given ms)) old c
  unfolding both list_left generate.found_asked
  list_left_lem {ms} x =
      ap₂ both (t ∙ ap (λ (a : Answer ℕ). value_left a c) x.told) x.room
      ∙ by_verdict ms (λ l. left {A = List ℕ × ℕ} 0 (written old 0 l, length l)) 4180 (length ms) c old (written old 0 ms) refl
      (λ a. generate.room_after a old ms) refl (λ m. refl) (examined b)

  pub text-left : score.Writes b old new r → left {A = List ℕ × ℕ} k (new, d) ≡ text_left (after (examined b) (given (token_of (features_of (shown b))))) old c
  unfolding both text_left score.token_asked
  text-left x =
      ap₂ both (t ∙ ap (λ (a : Answer ℕ). value_left a c) x.told) x.room
      ∙ by_verdict (token_of (features_of (shown b))) (λ l. left {A = List ℕ × ℕ} 0 (over l old, length l)) 32 (length (token_of (features_of (shown b)))) c old
      (over (token_of (features_of (shown b))) old) refl (λ a. score.room_after a old (token_of (features_of (shown b)))) refl (λ m. refl) (examined b)

-- a number that is no kind's
pub no_kind : (t : Table) (kind : ℕ) {w : Option Way} {why : Refusal} → w ≡ None → ◌≡◌ {A = Result Way Refusal} (Err why) (Err OutOfRange)
    → given_or 30 w ≡ way_asked kind → refused (number_of why) ≡ found_by t (way_asked kind)
no_kind t kind {why = why} none same e =
    let z : why ≡ OutOfRange = cc in
    ap (λ (x : Refusal). refused (number_of x)) z ∙ ap (found_by t) (ap (given_or 30) (sym none) ∙ e)
