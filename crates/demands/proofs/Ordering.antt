-- Answers by the first test that fails: what the table of orders says of a call in which an answer crosses.
use mathlib.Core.Path.{◌≡◌, refl, sym, ap, ◌∙◌, subst}
use mathlib.Core.Bool.{Bool, true, false, not, ◌&&◌}
use mathlib.Core.List.{List, [], ◌∷◌, ◌++◌}
use Prim.Native.Nat.{ℕ}
use native.Mathlib.Omega.{arith}
use borrow.Author.Tests.{eq-eqb, eqb-true}
use lib.Dec.{eqb, leb}
use lib.ListN.{length}
use Rattle.base.specs.Answer.{Answer, given, refused, unless}
use Rattle.base.specs.Words.{all}
use Rattle.base.proofs.Words.{first, second, true_or_not}
use Rattle.base.proofs.Answers.{given_by}
use Rattle.board.specs.Table.{cards_on}
use Rattle.board.specs.Verdict.{Verdict, fine, after, only_cards, none_twice, none_missing, verdict_on}
use Rattle.board.specs.Record.{shapely, shown, examined}
use Rattle.board.specs.declared.Board.{Board}
use Rattle.crossing.specs.Wire.{board_room, board_in}
use Rattle.crossing.specs.Crossing.{Left, left, crossed, asked, within}
use Rattle.corbelnib.specs.Calls.{Entry, In, Places, promise, Call, GoodBoard}
use Rattle.demands.specs.Orders.{Test, first_failing, boards, room_for, order}
use Rattle.demands.specs.Demand1.{hands, Tells}
use Rattle.crossing.proofs.Crossing.{given_after}
use Rattle.demands.proofs.Crossing.{good_board, good_fine}

-- ---- tests after tests

pub after-after : {A : Type 0} (v w : Verdict) (a : Answer A) → after (after v w) a ≡ after v (after w a)
after-after (given u) w a = refl
after-after (refused n) w a = refl

pub after_test : {A : Type 0} (ok : Bool) (n : ℕ) (a : Answer A) → after (unless ok n fine) a ≡ unless ok n a
after_test true n a = refl
after_test false n a = refl

pub joined : (ts us : List Test) → first_failing (ts ++ us) ≡ after (first_failing ts) (first_failing us)
joined [] us = refl
joined (t ∷ ts) us = by t.0 (joined ts us)
  where
    by : (ok : Bool) → first_failing (ts ++ us) ≡ after (first_failing ts) (first_failing us)
        → unless ok t.1 (first_failing (ts ++ us)) ≡ after (unless ok t.1 (first_failing ts)) (first_failing us)
    by true e = e
    by false e = refl

-- ---- a board's tests come first

module _ (bytes : List ℕ) (ts : List Test) where
  pub boards_then : unless (eqb (length bytes) board_room) 12 (after (examined (board_in bytes)) (first_failing ts)) ≡ first_failing (boards bytes ++ ts)
  unfolding examined verdict_on
  boards_then =
      let b = board_in bytes in
      let t = shown b in
      by (eqb (length bytes) board_room) (shapely b) (only_cards t) (none_twice (cards_on t)) (none_missing (cards_on t))
    where
      by : (l s c w m : Bool)
          → unless l 12 (after (unless s 12 (unless c 13 (unless w 14 (unless m 15 fine)))) (first_failing ts))
          ≡ unless l 12 (unless s 12 (unless c 13 (unless w 14 (unless m 15 (first_failing ts)))))
      by false s c w m = refl
      by true false c w m = refl
      by true true false w m = refl
      by true true true false m = refl
      by true true true true false = refl
      by true true true true true = refl

  -- no test fails: the board is well formed, and none of the others fails
  pub boards_good : first_failing (boards bytes ++ ts) ≡ fine → GoodBoard bytes × (first_failing ts ≡ fine)
  boards_good e =
      let l = given_by (eqb (length bytes) board_room) 12 (after (examined (board_in bytes)) (first_failing ts)) (boards_then ∙ e) in
      let v = given_after tt (examined (board_in bytes)) (first_failing ts) l.1 in
      (good_board bytes (eqb-true (length bytes) 432 l.0) v.0, v.1)

  -- the tests of a well-formed board do not fail
  pub good_boards : GoodBoard bytes → first_failing (boards bytes ++ ts) ≡ first_failing ts
  good_boards g =
      sym boards_then
      ∙ ap (λ (ok : Bool). unless ok 12 (after (examined (board_in bytes)) (first_failing ts))) (eq-eqb (length bytes) 432 g.long)
      ∙ ap (λ (v : Verdict). after v (first_failing ts)) (good_fine g)

-- the verdict on a board
pub board_first_lem : (bytes : List ℕ) → asked bytes examined ≡ first_failing (boards bytes)
unfolding examined verdict_on
board_first_lem bytes = refl

-- a test that does not fail
pub passing : (ok : Bool) (n : ℕ) (ts : List Test) → ok ≡ true → first_failing ((ok, n) ∷ ts) ≡ first_failing ts
passing ok n ts e = ap (λ (b : Bool). unless b n (first_failing ts)) e

-- ---- an answer is x if none of some tests fails, and else refused by the first that does

pub record By {A : Type 0} (a : Answer A) (ts : List Test) (x : A) : Type 0 where
  pub is : a ≡ after (first_failing ts) (given x)

module _ {A : Type 0} where
  pub untested : (x : A) → By (given x) [] x
  untested x = record { is = refl }

  module _ {a : Answer A} {ts : List Test} {x : A} where
    pub tested : (ok : Bool) (n : ℕ) → By a ts x → By (unless ok n a) ((ok, n) ∷ ts) x
    tested true n r = record { is = r.is }
    tested false n r = record { is = refl }

    pub roomed : (size : ℕ) (lent : List ℕ) → By a ts x → By (within size (length lent) a) (ts ++ room_for size lent) x
    roomed size lent r =
        record {
          is = ap (within size (length lent)) r.is ∙ by_verdict (first_failing ts)
              ∙ ap (λ (v : Verdict). after v (given x)) (sym (joined ts (room_for size lent)));
        }
      where
        by_verdict : (v : Verdict) → within size (length lent) (after v (given x)) ≡ after (after v (unless (leb size (length lent)) 21 fine)) (given x)
        by_verdict (given u) = sym (after_test (leb size (length lent)) 21 (given x))
        by_verdict (refused n) = refl

  -- two tests that are asked as one
  pub both_tested : {a : Answer A} {ts : List Test} {x : A} (one two : Bool) (n : ℕ) → By a ts x → By (unless (one && two) n a) ((one, n) ∷ (two, n) ∷ ts) x
  both_tested true true n r = record { is = r.is }
  both_tested true false n r = record { is = refl }
  both_tested false two n r = record { is = refl }

  -- a board that has to be fine first
  pub asked_by : (bytes : List ℕ) (question : Board → Answer A) {ts : List Test} {x : A} → By (question (board_in bytes)) ts x
      → By (asked bytes (λ b. after (examined b) (question b))) (boards bytes ++ ts) x
  asked_by bytes question {ts} {x} r =
      record {
        is = ap (λ (a : Answer A). unless (eqb (length bytes) board_room) 12 (after (examined (board_in bytes)) a)) r.is
            ∙ on (eqb (length bytes) board_room) (examined (board_in bytes)) (first_failing ts)
            ∙ ap (λ (v : Verdict). after v (given x)) (boards_then bytes ts);
      }
    where
      on : (ok : Bool) (v w : Verdict) → unless ok 12 (after v (after w (given x))) ≡ after (unless ok 12 (after v w)) (given x)
      on true v w = sym (after-after v w (given x))
      on false v w = refl

-- ---- what the table says of a call: a refusal is its number and leaves what was lent; where no test fails, something is handed back

abbrev pub Held : {B : Type 0} → (ℕ → Bool) → B → Verdict → Left B → Type 0
Held handed old (given u) p = handed p.number ≡ true
Held handed old (refused n) p = p ≡ left n old

pub crosses : {A B : Type 0} (handed : ℕ → Bool) (old : B) (ts : List Test) (x : A) (f : A → Left B) {a : Answer A} → By a ts x → handed (f x).number ≡ true
    → Held handed old (first_failing ts) (crossed a old f)
crosses {A} handed old ts x f r h =
    subst (λ (a : Answer A). Held handed old (first_failing ts) (crossed a old f)) (sym r.is) (by_verdict (first_failing ts))
  where
    by_verdict : (v : Verdict) → Held handed old v (crossed (after v (given x)) old f)
    by_verdict (given u) = h
    by_verdict (refused n) = refl

-- ---- the numbers of some tests

abbrev pub numbers : List Test → List ℕ
numbers [] = []
numbers (t ∷ ts) = t.1 ∷ numbers ts

-- with no number of a test something is handed back
pub not_handed : (handed : ℕ → Bool) (ts : List Test) → all (λ n. not (handed n)) (numbers ts) ≡ true → (n : ℕ) → first_failing ts ≡ refused n → handed n ≡ false
unfolding all
not_handed handed [] d n e = let z : ◌≡◌ {A = ℕ} 0 1 = cc in absurd (let w : ⊥ = omega arith in w)
not_handed handed (t ∷ ts) d n e = by_test t.0 e (not_handed handed ts (second (not (handed t.1)) _ d) n)
  where
    none : (b : Bool) → not b ≡ true → b ≡ false
    none false q = refl
    none true q = true_or_not false q refl

    by_test : (ok : Bool) → unless ok t.1 (first_failing ts) ≡ refused n → (first_failing ts ≡ refused n → handed n ≡ false) → handed n ≡ false
    by_test true q on = on q
    by_test false q on = let same : t.1 ≡ n = cc in ap handed (sym same) ∙ none (handed t.1) (first (not (handed t.1)) _ d)

-- ---- what that says of a call

abbrev pub Ruled : (e : Entry) → In e → Places e → Type 0
Ruled e i l = Held (hands e) l (first_failing (order e i l)) (promise e i l)

abbrev pub Bare : (e : Entry) → In e → Places e → Type 0
Bare e i l = all (λ n. not (hands e n)) (numbers (order e i l)) ≡ true

module _ {e : Entry} (c : Call e) (r : Ruled e c.input c.before) where
  abbrev verdict : Verdict
  verdict = first_failing (order e c.input c.before)

  held : Held (hands e) c.before verdict (left c.number c.after)
  held = subst (Held (hands e) c.before verdict) (sym c.keeps) r

  pub call_numbered : Tells e verdict c.number
  call_numbered = by_verdict verdict held
    where
      by_verdict : (v : Verdict) → Held (hands e) c.before v (left c.number c.after) → Tells e v c.number
      by_verdict (given u) h = h
      by_verdict (refused n) h = ap (λ (l : Left (Places e)). l.number) h

  pub call_keeps : hands e c.number ≡ false → c.after ≡ c.before
  call_keeps f = by_verdict verdict held
    where
      by_verdict : (v : Verdict) → Held (hands e) c.before v (left c.number c.after) → c.after ≡ c.before
      by_verdict (given u) h = true_or_not (hands e c.number) h f
      by_verdict (refused n) h = ap (λ (l : Left (Places e)). l.places) h

  pub call_examines : Bare e c.input c.before → hands e c.number ≡ true → verdict ≡ fine
  call_examines bare t = by_verdict verdict refl call_numbered
    where
      by_verdict : (v : Verdict) → verdict ≡ v → Tells e v c.number → v ≡ fine
      by_verdict (given u) q h = refl
      by_verdict (refused n) q h =
          true_or_not (hands e n) (ap (hands e) (sym h) ∙ t) (not_handed (hands e) (order e c.input c.before) bare n q)
