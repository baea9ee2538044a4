-- The search's outcome, with pops and moves behind pointers.
use Rattle.std.specs.Prelude.{Result, Ok, Err}
use mathlib.Core.Path.{◌≡◌, refl, sym, ap, ◌∙◌}
use mathlib.Core.Bool.{Bool, true, false, cond, ◌||◌}
use mathlib.Core.List.{List}
use Prim.Native.Nat.{ℕ}
use native.Mathlib.Omega.{arith}
use lib.Dec.{eqb, leb}
use lib.ListN.{length}
use Rattle.base.specs.Answer.{given, refused, unless}
use Rattle.board.specs.Refusal.{number_of, answered}
use Rattle.board.specs.declared.Board.{Board}
use Rattle.board.specs.declared.Refusal.{Refusal}
use Rattle.board.proofs.Unique.{never_said}
use Rattle.finish.specs.Said.{said_number, told}
use Rattle.finish.specs.declared.Said.{Said}
use Rattle.finish.specs.declared.Said.TheVariants.{Won, BestAtLimit, BestExhausted, Limit, Exhausted, BestIsWon, OutOfNodes}
use Rattle.finish.specs.declared.Judged.{Judged}
use Rattle.solver.specs.Searched.{Outcome, outcome, refused_with, searched}
use Rattle.crossing.specs.Wire.{board_in}
use Rattle.crossing.specs.Crossing.{asked}
use Rattle.crossing.specs.Numbers.{flag, is_answer}
use Rattle.corbelnib.specs.Judged.{leaves, pointed, judge_left}

-- an answer's number is an answer
said_is : (s : Said) → is_answer (said_number s) ≡ true
said_is Won = refl
said_is BestAtLimit = refl
said_is BestExhausted = refl
said_is Limit = refl
said_is Exhausted = refl
said_is BestIsWon = refl
said_is OutOfNodes = refl

-- and no refusal's is
refusal_is : (why : Refusal) → is_answer (number_of why) ≡ false
refusal_is why = by (leb (number_of why) 5) (eqb (number_of why) 23) (eqb (number_of why) 24) (never_said why)
  where
    by : (a b c : Bool) → (a || (b || c)) ≡ false → (a || b) ≡ false
    by true b c e = e
    by false true c e = e
    by false false c e = refl

module _ (nodes heap keys costs list : List ℕ) (pops moves : ℕ) (board : List ℕ) (budget partial : ℕ) (lent : Result Board Refusal)
    (e : answered lent ≡ asked board given) where
  -- by whether the bytes are a board
  by : Bool → Outcome
  by ok = pointed (cond ok (searched nodes heap keys costs list (board_in board) budget (flag partial)) (refused_with nodes heap keys costs list 12)) pops moves

  pub judge_none : {why : Refusal} {k : ℕ} → lent ≡ Err why → k ≡ number_of why
      → leaves k pops moves nodes heap keys costs list ≡ judge_left nodes heap keys costs list pops moves board budget partial
  unfolding by judge_left
  judge_none {why} {k} q n = of (eqb (length board) 432) (sym (ap answered q) ∙ e)
    where
      of : (ok : Bool) → refused (number_of why) ≡ unless ok 12 (given (board_in board)) → leaves k pops moves nodes heap keys costs list ≡ by ok
      of true h = let z : ◌≡◌ {A = ℕ} 0 1 = cc in absurd (let w : ⊥ = omega arith in w)
      of false h = let z : k ≡ 12 = cc in ap (λ (j : ℕ). leaves j pops moves nodes heap keys costs list) z

  module _ {b : Board} (q : lent ≡ Ok b) {f : Bool} (g : f ≡ flag partial) (r : Result Judged Refusal) {n p k c l : List ℕ}
      (s : outcome (told r) n p k c l ≡ searched nodes heap keys costs list b budget f) where
    found : pointed (outcome (told r) n p k c l) pops moves ≡ judge_left nodes heap keys costs list pops moves board budget partial
    unfolding by judge_left
    found =
        ap (λ (o : Outcome). pointed o pops moves) (s ∙ ap (λ (x : Bool). searched nodes heap keys costs list b budget x) g)
        ∙ of (eqb (length board) 432) (sym (ap answered q) ∙ e)
      where
        of : (ok : Bool) → given b ≡ unless ok 12 (given (board_in board)) → pointed (searched nodes heap keys costs list b budget (flag partial)) pops moves ≡ by ok
        of true h =
            let z : b ≡ board_in board = cc in
            ap (λ (x : Board). pointed (searched nodes heap keys costs list x budget (flag partial)) pops moves) z
        of false h = let z : ◌≡◌ {A = ℕ} 0 1 = cc in absurd (let w : ⊥ = omega arith in w)

    -- an answer tells its pops and moves
    pub judge_answers : {j : Judged} {number : ℕ} → r ≡ Ok j → number ≡ said_number j.said
        → leaves number j.pops j.moves n p k c l ≡ judge_left nodes heap keys costs list pops moves board budget partial
    judge_answers {j} {number} o m =
        ap (λ (x : ℕ). leaves x j.pops j.moves n p k c l) m
        ∙ ap (λ (t : Bool). leaves (said_number j.said) (cond t j.pops pops) (cond t j.moves moves) n p k c l) (sym (said_is j.said))
        ∙ ap (λ (x : Result Judged Refusal). pointed (outcome (told x) n p k c l) pops moves) (sym o) ∙ found

    -- a refusal tells its number alone
    pub judge_refuses : {why : Refusal} {number : ℕ} → r ≡ Err why → number ≡ number_of why
        → leaves number pops moves n p k c l ≡ judge_left nodes heap keys costs list pops moves board budget partial
    judge_refuses {why} {number} o m =
        ap (λ (x : ℕ). leaves x pops moves n p k c l) m
        ∙ ap (λ (t : Bool). leaves (number_of why) (cond t 0 pops) (cond t 0 moves) n p k c l) (sym (refusal_is why))
        ∙ ap (λ (x : Result Judged Refusal). pointed (outcome (told x) n p k c l) pops moves) (sym o) ∙ found
