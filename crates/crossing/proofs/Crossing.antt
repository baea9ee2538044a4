-- The board's length decides first, and then the room.
use mathlib.Core.Path.{◌≡◌, refl, sym, ap, ◌∙◌}
use mathlib.Core.Bool.{Bool, true, false}
use mathlib.Core.List.{List}
use Prim.Native.Nat.{ℕ, ◌<◌, ◌≤◌}
use Rattle.std.specs.Prelude.{Result, Ok, Err}
use Rattle.std.specs.Result.{MatchResult}
use Rattle.board.specs.Refusal.{number_of, answered}
use Rattle.board.specs.declared.Refusal.{Refusal}
use lib.Dec.{eqb}
use native.Mathlib.Omega.{arith}
use borrow.Author.Tests.{le-leb, lt-leb}
use lib.ListN.{length}
use Rattle.base.specs.Answer.{Answer, given, refused, unless}
use Rattle.board.specs.Verdict.{Verdict, fine, after}
use Rattle.board.specs.declared.Board.{Board}
use Rattle.crossing.specs.Wire.{board_in}
use Rattle.crossing.specs.Crossing.{asked, within}

-- what is given passed its test
module _ {A : Type 0} (x : A) where
  pub given_after : (v : Verdict) (a : Answer A) → after v a ≡ given x → (v ≡ fine) × (a ≡ given x)
  given_after (given u) a e = (refl, e)
  given_after (refused n) a e = let z : ◌≡◌ {A = ℕ} 0 1 = cc in absurd (let w : ⊥ = omega arith in w)

-- what is asked about the bytes that were lent is asked about their board
module _ {A : Type 0} (lent : Result Board Refusal) (bytes : List ℕ) (e : answered lent ≡ asked bytes given) where
  pub asked_yes : {b : Board} → lent ≡ Ok b → (question : Board → Answer A) → question b ≡ asked bytes question
  asked_yes {b} q question = by (eqb (length bytes) 432) (sym (ap answered q) ∙ e)
    where
      by : (t : Bool) → given b ≡ unless t 12 (given (board_in bytes)) → question b ≡ unless t 12 (question (board_in bytes))
      by true h = let z : b ≡ board_in bytes = cc in ap question z
      by false h = let z : ◌≡◌ {A = ℕ} 0 1 = cc in absurd (let w : ⊥ = omega arith in w)

  pub asked_no : {why : Refusal} → lent ≡ Err why → (question : Board → Answer A) → refused (number_of why) ≡ asked bytes question
  asked_no {why} q question = by (eqb (length bytes) 432) (sym (ap answered q) ∙ e)
    where
      by : (t : Bool) → refused (number_of why) ≡ unless t 12 (given (board_in bytes)) → refused (number_of why) ≡ unless t 12 (question (board_in bytes))
      by true h = let z : ◌≡◌ {A = ℕ} 0 1 = cc in absurd (let w : ⊥ = omega arith in w)
      by false h = let z : number_of why ≡ 12 = cc in ap refused z

  -- by `and_then`
  pub asked_then : (r : Result A Refusal) {P : Board → Type 0} → MatchResult lent P (λ why. r ≡ Err why) → (question : Board → Answer A)
      → ((b : Board) → P b → answered r ≡ question b) → answered r ≡ asked bytes question
  asked_then r {P} m question f = by lent refl m
    where
      by : (l : Result Board Refusal) → lent ≡ l → MatchResult l P (λ why. r ≡ Err why) → answered r ≡ asked bytes question
      by (Ok b) q k = f b k ∙ asked_yes q question
      by (Err why) q k = ap answered k ∙ asked_no q question

-- the room decides: whatever f makes of an answer
module _ {A B : Type 0} (f : Answer A → B) (room lent : ℕ) (a : A) where
  pub no_room_lem : lent < room → f (refused 21) ≡ f (within room lent (given a))
  no_room_lem h = ap (λ (ok : Bool). f (unless ok 21 (given a))) (sym (lt-leb room lent h))

  pub some_room : room ≤ lent → f (given a) ≡ f (within room lent (given a))
  some_room h = ap (λ (ok : Bool). f (unless ok 21 (given a))) (sym (le-leb room lent h))
