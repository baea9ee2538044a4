-- The plain questions: the refusals of a record first, and what the places say of the answers.
use Rattle.std.specs.Prelude.{Err, Ok, Some, Result, None}
use mathlib.Core.Path.{◌≡◌, refl, sym, ap, ◌∙◌}
use mathlib.Core.Bool.{cond}
use mathlib.Core.List.{List, [], ◌∷◌}
use Prim.Native.Nat.{ℕ, zero, suc, ◌+◌, ◌-◌, ◌*◌, ◌<◌, ◌≤◌}
use native.Mathlib.Omega.{arith}
use lib.Dec.{eqb, ltb}
use borrow.Author.Tests.{lt-ltb, le-ltb}
use lib.ListN.{length, get_or}
use Rattle.base.specs.Words.{sum, listed}
use Rattle.base.specs.Answer.{Answer, refused, unless}
use Rattle.card.specs.Card.{card_of}
use Rattle.base.proofs.Words.{get_or-listed}
use Rattle.base.proofs.Sums.{sum_same}
use Rattle.board.specs.Verdict.{Verdict, fine, after}
use Rattle.board.specs.Record.{column_at, shown, room}
use Rattle.board.specs.Refusal.{number_of, answered}
use Rattle.questions.specs.Questions.{top_of, empty_cells, empty_columns}
use Rattle.board.specs.Inner.{GoodColumns}
use Rattle.board.specs.declared.Board.{Board}
use Rattle.board.specs.declared.Refusal.{Refusal}
use Rattle.std.specs.Result.{IsErrAnd}
use Rattle.std.proofs.lemmas.Result.{err_from_is_err_and}
use Rattle.board.proofs.Soundness.{column_length, column_code}

-- ---- the verdict decides

module _ {A : Type 0} {v : Verdict} {r : Result (Unit {0}) Refusal} (a : Answer A) (e : answered r ≡ v) where
  pub after_no : {why : Refusal} → r ≡ Err why → refused (number_of why) ≡ after v a
  after_no q = ap (λ (w : Verdict). after w a) (ap answered (sym q) ∙ e)

  pub after_err : {why : Refusal} (q : Result A Refusal) → r ≡ Err why → IsErrAnd q (λ e. e ≡ why) → answered q ≡ after v a
  after_err q e h = let p = err_from_is_err_and q h in rw (p.1, p.2) (after_no e)

  pub after_yes : r ≡ Ok tt → after v a ≡ a
  after_yes q = ap (λ (w : Verdict). after w a) (sym e ∙ ap answered q)

pub verdict_fine : {v : Verdict} {r : Result (Unit {0}) Refusal} → answered r ≡ v → r ≡ Ok tt → v ≡ fine
verdict_fine e q = sym e ∙ ap answered q

-- ---- a place that is none is 30

module _ {A : Type 0} (i n : ℕ) (a : Answer A) where
  pub place_no : n ≤ i → unless (ltb i n) 30 a ≡ refused 30
  place_no h = rw (le-ltb i n h)

  pub place_yes : i < n → unless (ltb i n) 30 a ≡ a
  place_yes h = rw (lt-ltb i n h)

-- ---- what a record shows

module _ (b : Board) where
  pub shown_column : (i : ℕ) → i < 8 → column_at b.counts b.tableau i ≡ get_or (shown b).columns i []
  unfolding shown
  shown_column i h = sym (get_or-listed (column_at b.counts b.tableau) 8 i [] h)

  pub shown_columns : listed 8 (column_at b.counts b.tableau) ≡ (shown b).columns
  unfolding shown
  shown_columns = refl

  pub shown_cells : b.cells ≡ (shown b).cells
  unfolding shown
  shown_cells = refl

  pub shown_foundation : b.foundation ≡ (shown b).foundation
  unfolding shown
  shown_foundation = refl

-- ---- the top of a column

pub top_none : (l : List ℕ) → length l ≡ 0 → top_of l ≡ None
unfolding top_of
top_none [] e = refl
top_none (x ∷ l) e = absurd (let z : ⊥ = omega arith in z)

pub top_some : (l : List ℕ) (n : ℕ) → length l ≡ suc n → top_of l ≡ Some (card_of (get_or l n 0))
unfolding top_of
top_some [] n e = absurd (let z : ⊥ = omega arith in z)
top_some (x ∷ []) zero e = refl
top_some (x ∷ []) (suc n) e = absurd (let z : ⊥ = omega arith in z)
top_some (x ∷ y ∷ l) zero e = absurd (let z : ⊥ = omega arith in z)
top_some (x ∷ y ∷ l) (suc n) e = top_some (y ∷ l) n (omega arith)

module _ {counts tableau : List ℕ} (g : GoodColumns counts tableau) (i w : ℕ) (h : i < 8) (e : w ≡ get_or counts i 0) where
  pub no_top : w ≡ 0 → None ≡ top_of (column_at counts tableau i)
  no_top q = sym (top_none (column_at counts tableau i) (column_length g i h ∙ sym e ∙ q))

  pub a_top : (w ≡ 0 → ⊥) → Some (card_of (get_or tableau (i * room + (w - 1)) 0)) ≡ top_of (column_at counts tableau i)
  a_top q =
      sym
      (top_some (column_at counts tableau i) (w - 1) (let n = column_length g i h in omega arith)
      ∙ ap (λ (x : ℕ). Some (card_of x)) (column_code counts tableau i (w - 1) (omega arith)))

-- ---- counts

pub empty_cells_lem : (cells : List ℕ) → length cells ≡ 4 → sum (length cells) (λ k. cond (eqb (get_or cells k 0) 255) 1 0) ≡ empty_cells cells
unfolding empty_cells
empty_cells_lem cells e = ap (λ (n : ℕ). sum n (λ k. cond (eqb (get_or cells k 0) 255) 1 0)) e

pub empty_columns_lem : {counts tableau : List ℕ} → GoodColumns counts tableau
    → sum (length counts) (λ k. cond (eqb (get_or counts k 0) 0) 1 0) ≡ empty_columns (listed 8 (column_at counts tableau))
unfolding empty_columns
empty_columns_lem {counts} {tableau} g =
    ap (λ (n : ℕ). sum n (λ k. cond (eqb (get_or counts k 0) 0) 1 0)) g.eight
    ∙ sum_same (λ k. cond (eqb (get_or counts k 0) 0) 1 0) (λ i. cond (eqb (length (get_or (listed 8 (column_at counts tableau)) i [])) 0) 1 0) 8
    (λ k h. ap (λ (n : ℕ). cond (eqb n 0) 1 0)
    (sym (ap length (get_or-listed (column_at counts tableau) 8 k [] h) ∙ column_length g k h)))
