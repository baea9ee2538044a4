-- What a written move means on a record: the most that go into an empty column, the count that fits an occupied one, the card there.
use Rattle.std.specs.Prelude.{None, Some}
use mathlib.Core.Path.{◌≡◌, sym, ap, ap₂, ◌∙◌, subst}
use mathlib.Core.Bool.{Bool, true, false, cond, ◌&&◌}
use mathlib.Core.List.{List}
use Prim.Native.Nat.{ℕ, suc, min, ◌+◌, ◌-◌, ◌*◌, ◌<◌, ◌≤◌}
use native.Mathlib.Omega.{arith}
use borrow.Author.Tests.{eq-eqb, ne_eqb, le-leb, lt-leb, lt-ltb}
use lib.Dec.{leb, ltb}
use lib.ListN.{length, get_or}
use Rattle.base.specs.Words.{listed}
use Rattle.base.specs.Answer.{given, refused, unless}
use Rattle.base.proofs.Words.{both, second_fails}
use Rattle.card.specs.Card.{is_card, card_of}
use Rattle.card.specs.declared.Card.{Card}
use Rattle.board.specs.Table.{Table}
use Rattle.board.specs.Record.{column_at, shown, room}
use Rattle.board.specs.Inner.{GoodColumns, Sound}
use Rattle.board.specs.declared.Board.{Board}
use Rattle.board.proofs.Soundness.{column_length, column_code}
use Rattle.questions.specs.Questions.{top_of}
use Rattle.questions.proofs.Asking.{shown_column, shown_columns, shown_cells}
use Rattle.runs.specs.Run.{run_length}
use Rattle.rules.specs.Fit.{fits_on}
use Rattle.rules.specs.Limit.{most_moved}
use Rattle.rules.proofs.Laying.{run_at_most}
use Rattle.moves.specs.declared.Place.TheVariants.{Column as column, Cell as cell}
use Rattle.moves.specs.Play.{there, last_of}
use Rattle.moves.specs.declared.Move.{Move}
use Rattle.moves.specs.declared.Move.TheVariants.{TableauToTableau, TableauToFoundation, TableauToFreeCell, FreeCellToTableau, FreeCellToFoundation}
use Rattle.moves.proofs.Allowing.{last_first}
use Rattle.play.proofs.Playing.{count-there}
use Rattle.play.proofs.Tops.{top_empty, some_there, top_card}
use Rattle.generate.specs.Found.{offered}
use Rattle.generate.specs.declared.Way.TheVariants.{ColumnToColumn}
use Rattle.sense.specs.Meant.{vacant, most_into, fit_from, fitting_in, fitting, origin, leaves, count_goes, sense, meant}
use Rattle.notation.specs.declared.Jot.{Jot}
use Rattle.notation.specs.declared.Jot.TheVariants.{Between, Counted, ToCell, ToHome, FromCell, CellHome}
use Rattle.sense.proofs.Meaning.{meant-sense, most_run, fitting_run}

-- ---- a card of a column

module _ {counts tableau : List ℕ} (g : GoodColumns counts tableau) (i n w : ℕ) (h : i < 8) (one : 1 ≤ n) (most : n ≤ get_or counts i 0)
    (e : w ≡ get_or counts i 0) where
  pub deepest_is : get_or tableau (i * room + (w - n)) 0 ≡ get_or (last_of n (column_at counts tableau i)) 0 0
  deepest_is =
      let l = column_length g i h in
      sym
      (last_first n (column_at counts tableau i)
      ∙ ap (λ (k : ℕ). get_or (column_at counts tableau i) k 0) (let q : length (column_at counts tableau i) - n ≡ w - n = omega arith in q)
      ∙ column_code counts tableau i (w - n) (omega arith))

  pub deepest_card : is_card (get_or tableau (i * room + (w - n)) 0) ≡ true
  deepest_card = g.codes i (w - n) h (omega arith)

-- ---- two columns of a record

module _ {b : Board} (s : Sound b) (i j : ℕ) (hi : i < 8) where
  pub most_is : {u v : ℕ} → u ≡ most_moved b.cells (listed 8 (column_at b.counts b.tableau)) j → v ≡ run_length (column_at b.counts b.tableau i)
      → min u v ≡ most_into (shown b) i j
  unfolding most_into
  most_is p q =
      ap₂ min
      (p ∙ ap₂ (λ (l : List ℕ) (m : List (List ℕ)). most_moved l m j) (shown_cells b) (shown_columns b))
      (q ∙ ap run_length (shown_column b i hi))

  -- no more than lie there
  pub most_there : most_into (shown b) i j ≤ get_or b.counts i 0
  most_there =
      let m = most_run (shown b) i j in
      let r = run_at_most (there (shown b) (column i)) in
      let l = count-there b s.in_columns i hi in
      omega arith

  pub fitting-there : fitting (shown b) i j ≤ get_or b.counts i 0
  fitting-there =
      let f = fitting_run (shown b) i j in
      let r = run_at_most (there (shown b) (column i)) in
      let l = count-there b s.in_columns i hi in
      omega arith

  pub fit_is : j < 8 → (n : ℕ) {x : ℕ} → x ≡ get_or (last_of n (column_at b.counts b.tableau i)) 0 0 → {r : Bool} → r ≡ fits_on (column_at b.counts b.tableau j) x
      → r ≡ fit_from (shown b) i j n
  unfolding fit_from
  fit_is hj n e f =
      f ∙ ap₂ (λ (l : List ℕ) (y : ℕ). fits_on l y) (shown_column b j hj)
      (e ∙ ap (λ (l : List ℕ). get_or (last_of n l) 0 0) (shown_column b i hi))

  pub run_is : (n : ℕ) {x : ℕ} → x ≡ get_or (last_of n (column_at b.counts b.tableau i)) 0 0 → {c : Card} → c ≡ card_of x
      → TableauToTableau i j n c ≡ offered (shown b) ColumnToColumn i j n
  unfolding offered
  run_is n e f =
      ap (TableauToTableau i j n) (f ∙ ap card_of (e ∙ ap (λ (l : List ℕ). get_or (last_of n l) 0 0) (shown_column b i hi)))

-- ---- the count that fits, from the longest down

-- no longer one fits
pub record Fits (b : Board) (i j n : ℕ) : Type 0 where
  pub within : n ≤ get_or b.counts i 0
  pub left : fitting_in (shown b) i j n ≡ fitting (shown b) i j

module _ {b : Board} (s : Sound b) (i j : ℕ) (hi : i < 8) where
  pub fits_start : {n : ℕ} → n ≡ run_length (column_at b.counts b.tableau i) → Fits b i j n
  unfolding fitting
  fits_start e =
      let r = run_at_most (column_at b.counts b.tableau i) in
      let l = column_length s.in_columns i hi in
      record { within = omega arith; left = ap (fitting_in (shown b) i j) (e ∙ ap run_length (shown_column b i hi)) }

module _ {b : Board} {i j n : ℕ} (f : Fits b i j n) (some : 0 < n) where
  first : fitting (shown b) i j ≡ cond (fit_from (shown b) i j n) n (fitting_in (shown b) i j (n - 1))
  unfolding fitting_in
  first =
      sym f.left ∙ ap (fitting_in (shown b) i j) (let q : n ≡ suc (n - 1) = omega arith in q)
      ∙ ap (λ (k : ℕ). cond (fit_from (shown b) i j k) k (fitting_in (shown b) i j (n - 1))) (let q : suc (n - 1) ≡ n = omega arith in q)

  pub fits_stop : fit_from (shown b) i j n ≡ true → n ≡ fitting (shown b) i j
  fits_stop e = sym (first ∙ rw e)

  pub fits_turn : fit_from (shown b) i j n ≡ false → Fits b i j (n - 1)
  fits_turn e = let w = f.within in record { within = omega arith; left = sym (first ∙ rw e) }

pub fits_end : {b : Board} {i j n : ℕ} → Fits b i j n → n ≤ 0 → 0 ≡ fitting (shown b) i j
unfolding fitting_in
fits_end {b} {i} {j} {n} f h = ap (fitting_in (shown b) i j) (let q : 0 ≡ n = omega arith in q) ∙ f.left

-- ---- a move between two columns

module _ {b : Board} (s : Sound b) (j : ℕ) (hj : j < 8) where
  pub vacant_yes : get_or b.counts j 0 ≡ 0 → vacant (shown b) j ≡ true
  unfolding vacant
  vacant_yes e = eq-eqb (length (there (shown b) (column j))) 0 (count-there b s.in_columns j hj ∙ e)

  pub vacant_no : (get_or b.counts j 0 ≡ 0 → ⊥) → vacant (shown b) j ≡ false
  unfolding vacant
  vacant_no d = ne_eqb (length (there (shown b) (column j))) 0 (λ e. d (sym (count-there b s.in_columns j hj) ∙ e))

module _ (t : Table) (i j : ℕ) where
  pub means_most : vacant t j ≡ true → {n : ℕ} → n ≡ most_into t i j → {m : Move} → m ≡ offered t ColumnToColumn i j n → given m ≡ sense t (Between i j)
  means_most v q e = sym (rw v (ap (λ (k : Move). given k) (sym (e ∙ ap (offered t ColumnToColumn i j) q))))

  pub means_fit : vacant t j ≡ false → {n : ℕ} → n ≡ fitting t i j → 1 ≤ n → {m : Move} → m ≡ offered t ColumnToColumn i j n → given m ≡ sense t (Between i j)
  means_fit v {n} q h e =
      sym (rw (v, le-leb 1 (fitting t i j) (omega arith)) (ap (λ (k : Move). given k) (sym (e ∙ ap (offered t ColumnToColumn i j) q))))

  pub fits_none : vacant t j ≡ false → fitting t i j ≡ 0 → refused 38 ≡ sense t (Between i j)
  fits_none v z = sym (rw (v, lt-leb 1 (fitting t i j) (omega arith)))

  module _ (n : ℕ) where
    pub count_occupied : vacant t j ≡ false → refused 30 ≡ sense t (Counted i j n)
    unfolding count_goes
    count_occupied v = sym (rw v)

    module _ {most : ℕ} (q : most ≡ most_into t i j) where
      pub count_outside : (leb 1 n && ltb n most) ≡ false → refused 30 ≡ sense t (Counted i j n)
      unfolding count_goes
      count_outside e =
          sym
          (ap (λ (g : Bool). unless g 30 (given (offered t ColumnToColumn i j n)))
          (second_fails (vacant t j) _ (ap (λ (k : ℕ). leb 1 n && ltb n k) (sym q) ∙ e)))

      pub count_means : vacant t j ≡ true → 1 ≤ n → n < most → {m : Move} → m ≡ offered t ColumnToColumn i j n → given m ≡ sense t (Counted i j n)
      unfolding count_goes
      count_means v one h e =
          sym
          (ap (λ (g : Bool). unless g 30 (given (offered t ColumnToColumn i j n)))
          (both v (both (le-leb 1 n one) (lt-ltb n (most_into t i j) (omega arith))))
          ∙ ap (λ (k : Move). given k) (sym e))

-- ---- a move of one card

-- a card lies on a column that shows one
pub some_lies : {b : Board} → Sound b → (i : ℕ) → i < 8 → (c : Card) → top_of (there (shown b) (column i)) ≡ Some c → 1 ≤ get_or b.counts i 0
some_lies {b} s i h c top =
    let l = count-there b s.in_columns i h in
    let k = some_there (there (shown b) (column i)) c top in
    omega arith

module _ (t : Table) (card : Card) {j : Jot} (top : top_of (there t (origin j)) ≡ Some card) where
  pub top_of_lem : {k : Jot} → j ≡ k → top_of (there t (origin k)) ≡ Some card
  top_of_lem e = subst (λ (k : Jot). top_of (there t (origin k)) ≡ Some card) e top

  module _ {i k : ℕ} where
    pub means_to_cell : j ≡ ToCell i k → given (TableauToFreeCell i k card) ≡ sense t j
    unfolding offered
    means_to_cell e =
        ap (λ (c : Card). given (TableauToFreeCell i k c)) (sym (top_card (there t (column i)) card (top_of_lem e))) ∙ ap (sense t) (sym e)

    pub means_from_cell : j ≡ FromCell i k → given (FreeCellToTableau i k card) ≡ sense t j
    unfolding offered
    means_from_cell e =
        ap (λ (c : Card). given (FreeCellToTableau i k c)) (sym (top_card (there t (cell i)) card (top_of_lem e))) ∙ ap (sense t) (sym e)

  module _ {i : ℕ} where
    pub means_to-home : j ≡ ToHome i → given (TableauToFoundation i card) ≡ sense t j
    unfolding offered
    means_to-home e =
        ap (λ (c : Card). given (TableauToFoundation i c)) (sym (top_card (there t (column i)) card (top_of_lem e))) ∙ ap (sense t) (sym e)

    pub means_cell_home : j ≡ CellHome i → given (FreeCellToFoundation i card) ≡ sense t j
    unfolding offered
    means_cell_home e =
        ap (λ (c : Card). given (FreeCellToFoundation i c)) (sym (top_card (there t (cell i)) card (top_of_lem e))) ∙ ap (sense t) (sym e)

-- ---- any written move

module _ (t : Table) (j : Jot) where
  pub meant_own : leaves j ≡ false → refused 30 ≡ meant t j
  unfolding meant
  meant_own e = sym (rw e)

  module _ (away : leaves j ≡ true) where
    pub meant_none : length (there t (origin j)) < 1 → refused 33 ≡ meant t j
    unfolding meant
    meant_none h = sym (rw (away, lt-leb 1 (length (there t (origin j))) h))

    pub meant_bare : top_of (there t (origin j)) ≡ None → refused 33 ≡ meant t j
    meant_bare e = meant_none (let z = top_empty (there t (origin j)) e in omega arith)

    pub meant-there : {c : Card} → top_of (there t (origin j)) ≡ Some c → sense t j ≡ meant t j
    meant-there {c} e = sym (meant-sense t j away (let z = some_there (there t (origin j)) c e in omega arith))
