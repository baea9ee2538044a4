-- What is written for a move means that move, and a meaning is written as it was.
use mathlib.Core.Path.{◌≡◌, refl, sym, ap, ◌∙◌, subst}
use mathlib.Core.Bool.{Bool, true, false, cond, not, ◌&&◌}
use mathlib.Core.List.{List}
use Prim.Native.Nat.{ℕ, zero, suc, min, ◌-◌, ◌<◌, ◌≤◌}
use native.Mathlib.Omega.{arith}
use native.Mathlib.Decide.{ℕ_discrete}
use borrow.Author.Tests.{le-leb, leb-true, ltb-true, ltb-false, lt-ltb, le-ltb, eqb-false}
use lib.Dec.{eqb, leb, ltb}
use lib.ListN.{length, get_or}
use Rattle.base.specs.Answer.{Answer, given, unless}
use Rattle.base.proofs.Answers.{given_by}
use Rattle.base.proofs.Words.{both, first, second, second_fails, true_or_not, all_at}
use Rattle.card.specs.Card.{is_card, card_of}
use Rattle.card.specs.declared.Card.{Card}
use Rattle.card.proofs.Codes.{card_code, value_of_card}
use Rattle.board.specs.Table.{Table}
use Rattle.board.specs.Fair.{Fair}
use Rattle.runs.specs.Follows.{follows}
use Rattle.runs.specs.Run.{run_length}
use Rattle.rules.specs.Fit.{fits_on}
use Rattle.rules.specs.Limit.{most_moved}
use Rattle.rules.proofs.Laying.{fits_top, run_one, run_top, run_at_most, run_13, most_one}
use Rattle.rules.proofs.Lengths.{one_length}
use Rattle.moves.specs.Move.{from, count, card, sayable}
use Rattle.moves.specs.Play.{there, last_of, hand, allowed}
use Rattle.moves.specs.declared.Place.TheVariants.{Column as column}
use Rattle.moves.specs.declared.Move.{Move}
use Rattle.moves.specs.declared.Move.TheVariants.{TableauToTableau, TableauToFoundation, TableauToFreeCell, FreeCellToTableau, FreeCellToFoundation, FoundationToTableau}
use Rattle.moves.proofs.Records.{said_count}
use Rattle.moves.proofs.Allowing.{allowed_is, last_first}
use Rattle.moves.proofs.Fairness.{fair_cards}
use Rattle.generate.specs.Found.{source_count, source, target_count, offered}
use Rattle.generate.specs.declared.Way.{Way}
use Rattle.generate.specs.declared.Way.TheVariants.{ColumnToColumn, ColumnToHome, ColumnToCell, CellToColumn, CellToHome, HomeToColumn}
use Rattle.generate.proofs.Places.{source-there}
use Rattle.generate.proofs.Offering.{said_way}
use Rattle.generate.proofs.Columns.{run_bounds}
use Rattle.notation.specs.Jot.{WellMade}
use Rattle.sense.specs.Meant.{vacant, most_into, fit_from, fitting_in, fitting, origin, leaves, count_goes, sense, meant, writable, jot_of}
use Rattle.notation.specs.declared.Jot.{Jot}
use Rattle.notation.specs.declared.Jot.TheVariants.{Between, Counted, ToCell, ToHome, FromCell, CellHome}

-- ---- the count that fits an occupied column

module _ (t : Table) (i j : ℕ) where
  occupied : vacant t j ≡ false → 1 ≤ length (there t (column j))
  unfolding vacant
  occupied e = let d = eqb-false (length (there t (column j))) 0 e in let z = not_none (length (there t (column j))) d in z
    where
      not_none : (n : ℕ) → (n ≡ 0 → ⊥) → 1 ≤ n
      not_none zero d = absurd (d refl)
      not_none (suc n) d = omega arith

  -- two counts within the run that both fit are one
  fit_once : vacant t j ≡ false → (n m : ℕ) → n < run_length (there t (column i)) → m < run_length (there t (column i))
      → fit_from t i j (suc n) ≡ true → fit_from t i j (suc m) ≡ true → n ≡ m
  unfolding fit_from
  fit_once v n m a b e f =
      let l = there t (column i) in
      let d = there t (column j) in
      let o = occupied v in
      let top = length d - 1 in
      let q : length d ≡ suc top = omega arith in
      one_length l (get_or d top 0) n m a b
      (ap (follows (get_or d top 0)) (sym (last_first (suc n) l)) ∙ sym (fits_top d (get_or (last_of (suc n) l) 0 0) top q) ∙ e)
      (ap (follows (get_or d top 0)) (sym (last_first (suc m) l)) ∙ sym (fits_top d (get_or (last_of (suc m) l) 0 0) top q) ∙ f)

  -- so the count found is the count that fits
  fitting_in_lem : vacant t j ≡ false → (n : ℕ) → fit_from t i j (suc n) ≡ true → (most : ℕ) → n < most → most ≤ run_length (there t (column i)) → fitting_in t i j most ≡ suc n
  unfolding fitting_in
  fitting_in_lem v n e zero a b = absurd (let z : ⊥ = omega arith in z)
  fitting_in_lem v n e (suc k) a b = by_fit (fit_from t i j (suc k)) refl (fitting_in_lem v n e k)
    where
      by_fit : (f : Bool) → fit_from t i j (suc k) ≡ f → (n < k → k ≤ run_length (there t (column i)) → fitting_in t i j k ≡ suc n) → cond f (suc k) (fitting_in t i j k) ≡ suc n
      by_fit true q on = ap suc (fit_once v k n (omega arith) (omega arith) q e)
      by_fit false q on = on (less (ℕ_discrete n k)) (omega arith)
        where
          less : Dec (n ≡ k) → n < k
          less (yes w) = true_or_not (fit_from t i j (suc k)) (ap (λ (x : ℕ). fit_from t i j (suc x)) (sym w) ∙ e) q
          less (no d) = omega arith

  pub fitting_is : vacant t j ≡ false → (n : ℕ) → n < run_length (there t (column i)) → fit_from t i j (suc n) ≡ true → fitting t i j ≡ suc n
  unfolding fitting
  fitting_is v n h e = fitting_in_lem v n e (run_length (there t (column i))) h (omega arith)

-- ---- a move that is allowed means itself

-- past the first two refusals
pub meant-sense : (t : Table) (j : Jot) → leaves j ≡ true → 1 ≤ length (there t (origin j)) → meant t j ≡ sense t j
unfolding meant
meant-sense t j a h = rw (a, le-leb 1 (length (there t (origin j))) h)

-- the card that lies there is the one named
card-there : (t : Table) (m : Move) → allowed t m ≡ true → card_of (get_or (last_of (count m) (there t (from m))) 0 0) ≡ card m
unfolding hand
card-there t m a = ap card_of (allowed_is t m a).named ∙ card_code (card m)

count_goes_lem : (t : Table) (i j n : ℕ) → vacant t j ≡ true → 1 ≤ n → ltb n (most_into t i j) ≡ true → count_goes t i j n ≡ true
unfolding count_goes
count_goes_lem t i j n v one e = both v (both (le-leb 1 n one) e)

module _ (t : Table) (s d n : ℕ) (c : Card) (one : 1 ≤ n) (a : allowed t (TableauToTableau s d n c) ≡ true) where
  offered_run : (k : ℕ) → k ≡ n → offered t ColumnToColumn s d k ≡ TableauToTableau s d n c
  unfolding offered
  offered_run k q = ap (offered t ColumnToColumn s d) q ∙ ap (TableauToTableau s d n) (card-there t (TableauToTableau s d n c) a)

  most_is : ltb n (most_into t s d) ≡ false → most_into t s d ≡ n
  unfolding most_into
  most_is e =
      let b = run_bounds t s d n c one a in
      let l = ltb-false n (min (most_moved t.cells t.columns d) (run_length (there t (column s)))) e in
      omega arith

  fit_is : vacant t d ≡ false → fitting t s d ≡ n
  unfolding fit_from hand
  fit_is v =
      let b = run_bounds t s d n c one a in
      let m = allowed_is t (TableauToTableau s d n c) a in
      let q : suc (n - 1) ≡ n = omega arith in
      fitting_is t s d v (n - 1) (omega arith)
      (ap (λ (k : ℕ). fit_from t s d k) q ∙ ap (fits_on (there t (column d))) m.named ∙ m.fit)
      ∙ q

  run_means : meant t (jot_of t (TableauToTableau s d n c)) ≡ given (TableauToTableau s d n c)
  unfolding jot_of
  run_means = by_vacant (vacant t d) refl
    where
      away : not (eqb s d) ≡ true
      away = (allowed_is t (TableauToTableau s d n c) a).away

      some : 1 ≤ length (there t (column s))
      some = (allowed_is t (TableauToTableau s d n c) a).some

      is_move : (k : ℕ) → k ≡ n → ◌≡◌ {A = Answer Move} (given (offered t ColumnToColumn s d k)) (given (TableauToTableau s d n c))
      is_move k q = ap (λ (m : Move). given m) (offered_run k q)

      by_most : vacant t d ≡ true → (b : Bool) → ltb n (most_into t s d) ≡ b → meant t (cond b (Counted s d n) (Between s d)) ≡ given (TableauToTableau s d n c)
      by_most v true q = meant-sense t (Counted s d n) away some ∙ rw (count_goes_lem t s d n v one q) (is_move n refl)
      by_most v false q = meant-sense t (Between s d) away some ∙ rw v (is_move (most_into t s d) (most_is q))

      by_vacant : (b : Bool) → vacant t d ≡ b → meant t (cond (b && ltb n (most_into t s d)) (Counted s d n) (Between s d)) ≡ given (TableauToTableau s d n c)
      by_vacant true v = by_most v (ltb n (most_into t s d)) refl
      by_vacant false v =
          meant-sense t (Between s d) away some
          ∙ rw (v, le-leb 1 (fitting t s d) (let q = fit_is v in omega arith)) (is_move (fitting t s d) (fit_is v))

pub jot_means : (t : Table) (m : Move) → sayable m ≡ true → allowed t m ≡ true → writable m ≡ true → meant t (jot_of t m) ≡ given m
unfolding jot_of offered
jot_means t (TableauToTableau s d n c) e a w = run_means t s d n c (said_count (TableauToTableau s d n c) e) a
jot_means t (TableauToFoundation s c) e a w =
    meant-sense t (ToHome s) refl (allowed_is t (TableauToFoundation s c) a).some
    ∙ ap (λ (k : Card). given (TableauToFoundation s k)) (card-there t (TableauToFoundation s c) a)
jot_means t (TableauToFreeCell s i c) e a w =
    meant-sense t (ToCell s i) refl (allowed_is t (TableauToFreeCell s i c) a).some
    ∙ ap (λ (k : Card). given (TableauToFreeCell s i k)) (card-there t (TableauToFreeCell s i c) a)
jot_means t (FreeCellToTableau i d c) e a w =
    meant-sense t (FromCell i d) refl (allowed_is t (FreeCellToTableau i d c) a).some
    ∙ ap (λ (k : Card). given (FreeCellToTableau i d k)) (card-there t (FreeCellToTableau i d c) a)
jot_means t (FreeCellToFoundation i c) e a w =
    meant-sense t (CellHome i) refl (allowed_is t (FreeCellToFoundation i c) a).some
    ∙ ap (λ (k : Card). given (FreeCellToFoundation i k)) (card-there t (FreeCellToFoundation i c) a)
jot_means t (FoundationToTableau s d c) e a w = true_or_not false w refl

-- ---- a meaning is written as it was

-- a run into an empty column: the most has no `v`
most_jot : (t : Table) (i j : ℕ) (c : Card) → jot_of t (TableauToTableau i j (most_into t i j) c) ≡ Between i j
unfolding jot_of
most_jot t i j c =
    ap (λ (b : Bool). cond b (Counted i j (most_into t i j)) (Between i j))
    (second_fails (vacant t j) (ltb (most_into t i j) (most_into t i j)) (le-ltb (most_into t i j) (most_into t i j) (omega arith)))

fit_jot : (t : Table) (i j n : ℕ) (c : Card) → vacant t j ≡ false → jot_of t (TableauToTableau i j n c) ≡ Between i j
unfolding jot_of
fit_jot t i j n c v = rw v

count_jot : (t : Table) (i j n : ℕ) (c : Card) → count_goes t i j n ≡ true → jot_of t (TableauToTableau i j n c) ≡ Counted i j n
unfolding jot_of count_goes
count_jot t i j n c e =
    let r = second (vacant t j) _ e in
    rw (first (vacant t j) _ e, second (leb 1 n) (ltb n (most_into t i j)) r)

to_cell : (t : Table) (i c : ℕ) → jot_of t (offered t ColumnToCell i c 1) ≡ ToCell i c
unfolding jot_of offered
to_cell t i c = refl

to-home : (t : Table) (i : ℕ) → jot_of t (offered t ColumnToHome i 0 1) ≡ ToHome i
unfolding jot_of offered
to-home t i = refl

from_cell : (t : Table) (c j : ℕ) → jot_of t (offered t CellToColumn c j 1) ≡ FromCell c j
unfolding jot_of offered
from_cell t c j = refl

cell_home : (t : Table) (c : ℕ) → jot_of t (offered t CellToHome c 0 1) ≡ CellHome c
unfolding jot_of offered
cell_home t c = refl

means_jot : (t : Table) (j : Jot) {m : Move} → sense t j ≡ given m → jot_of t m ≡ j
unfolding offered
means_jot t (Between i j) {m} e = by_vacant (vacant t j) refl e
  where
    by_vacant : (b : Bool) → vacant t j ≡ b
        → cond b (given (offered t ColumnToColumn i j (most_into t i j))) (unless (leb 1 (fitting t i j)) 38 (given (offered t ColumnToColumn i j (fitting t i j)))) ≡ given m
        → jot_of t m ≡ Between i j
    by_vacant true v e =
        let q : offered t ColumnToColumn i j (most_into t i j) ≡ m = cc in
        ap (jot_of t) (sym q) ∙ most_jot t i j (card_of (get_or (last_of (most_into t i j) (there t (column i))) 0 0))
    by_vacant false v e =
        let g = (given_by (leb 1 (fitting t i j)) 38 (given (offered t ColumnToColumn i j (fitting t i j))) e).1 in
        let q : offered t ColumnToColumn i j (fitting t i j) ≡ m = cc in
        ap (jot_of t) (sym q) ∙ fit_jot t i j (fitting t i j) (card_of (get_or (last_of (fitting t i j) (there t (column i))) 0 0)) v
means_jot t (Counted i j n) {m} e =
    let g = given_by (count_goes t i j n) 30 (given (offered t ColumnToColumn i j n)) e in
    let h = g.1 in
    let q : offered t ColumnToColumn i j n ≡ m = cc in
    ap (jot_of t) (sym q) ∙ count_jot t i j n (card_of (get_or (last_of n (there t (column i))) 0 0)) g.0
means_jot t (ToCell i c) {m} e = let q : offered t ColumnToCell i c 1 ≡ m = cc in ap (jot_of t) (sym q) ∙ to_cell t i c
means_jot t (ToHome i) {m} e = let q : offered t ColumnToHome i 0 1 ≡ m = cc in ap (jot_of t) (sym q) ∙ to-home t i
means_jot t (FromCell c j) {m} e = let q : offered t CellToColumn c j 1 ≡ m = cc in ap (jot_of t) (sym q) ∙ from_cell t c j
means_jot t (CellHome c) {m} e = let q : offered t CellToHome c 0 1 ≡ m = cc in ap (jot_of t) (sym q) ∙ cell_home t c

pub meant_jot : (t : Table) (j : Jot) {m : Move} → meant t j ≡ given m → jot_of t m ≡ j
unfolding meant
meant_jot t j e =
    means_jot t j (given_by (leb 1 (length (there t (origin j)))) 33 (sense t j) (given_by (leaves j) 30 _ e).1).1

-- ---- a meaning can be said and written

pub record Sayable (m : Move) : Type 0 where
  pub said : sayable m ≡ true
  pub writes : writable m ≡ true

-- a kind that takes from a foundation
abbrev is_home : Way → Bool
is_home ColumnToColumn = false
is_home ColumnToHome = false
is_home ColumnToCell = false
is_home CellToColumn = false
is_home CellToHome = false
is_home HomeToColumn = true

offered-writable : (t : Table) (w : Way) (i j n : ℕ) → is_home w ≡ false → writable (offered t w i j n) ≡ true
unfolding offered
offered-writable t ColumnToColumn i j n d = refl
offered-writable t ColumnToHome i j n d = refl
offered-writable t ColumnToCell i j n d = refl
offered-writable t CellToColumn i j n d = refl
offered-writable t CellToHome i j n d = refl
offered-writable t HomeToColumn i j n d = true_or_not true refl d

count_bounds : (t : Table) (i j n : ℕ) → count_goes t i j n ≡ true → (1 ≤ n) × (n < most_into t i j)
unfolding count_goes
count_bounds t i j n e =
    let r = second (vacant t j) _ e in
    (leb-true 1 n (first (leb 1 n) (ltb n (most_into t i j)) r), ltb-true n (most_into t i j) (second (leb 1 n) (ltb n (most_into t i j)) r))

offered_said : (t : Table) (w : Way) (i j n : ℕ) → is_home w ≡ false → Fair t → i < source_count w → j < target_count w → 1 ≤ n → n ≤ length (there t (source w i)) → n ≤ 255
    → Sayable (offered t w i j n)
unfolding offered
offered_said t w i j n d f hi hj one many most =
    let l = there t (source w i) in
    record {
      writes = offered-writable t w i j n d;
      said = said_way w i j n (card_of (get_or (last_of n l) 0 0)) hi hj one most
          (value_of_card (get_or (last_of n l) 0 0)
          (subst (λ (y : ℕ). is_card y ≡ true) (sym (last_first n l)) (all_at is_card l (fair_cards t (source w i) f (source-there w i hi)) (length l - n) (omega arith))));
    }

-- a column with a card ends in a run
run_some : (l : List ℕ) → 1 ≤ length l → 1 ≤ run_length l
run_some l h =
    let top = length l - 1 in
    let r = leb-true (length l - top) (run_length l) (sym (run_top l top (omega arith)) ∙ run_one l top (omega arith)) in
    omega arith

pub most_some : (t : Table) (i j : ℕ) → 1 ≤ length (there t (column i)) → 1 ≤ most_into t i j
unfolding most_into
most_some t i j h = let r = run_some (there t (column i)) h in let m = most_one t.cells t.columns j in omega arith

pub most_run : (t : Table) (i j : ℕ) → most_into t i j ≤ run_length (there t (column i))
unfolding most_into
most_run t i j = omega arith

fitting_most : (t : Table) (i j n : ℕ) → fitting_in t i j n ≤ n
unfolding fitting_in
fitting_most t i j zero = omega arith
fitting_most t i j (suc n) = by_fit (fit_from t i j (suc n)) (fitting_most t i j n)
  where
    by_fit : (b : Bool) → fitting_in t i j n ≤ n → cond b (suc n) (fitting_in t i j n) ≤ suc n
    by_fit true h = omega arith
    by_fit false h = omega arith

pub fitting_run : (t : Table) (i j : ℕ) → fitting t i j ≤ run_length (there t (column i))
unfolding fitting
fitting_run t i j = fitting_most t i j (run_length (there t (column i)))

-- a run of no more cards than the column's
run_said : (t : Table) (i j n : ℕ) → Fair t → i < 8 → j < 8 → 1 ≤ n → n ≤ run_length (there t (column i)) → Sayable (offered t ColumnToColumn i j n)
run_said t i j n f hi hj one most =
    let a = run_at_most (there t (column i)) in
    let r = run_13 (there t (column i)) (fair_cards t (column i) f (lt-ltb i 8 hi)) in
    offered_said t ColumnToColumn i j n refl f hi hj one (omega arith) (omega arith)

sense_said : (t : Table) (j : Jot) → Fair t → WellMade j → 1 ≤ length (there t (origin j)) → {m : Move} → sense t j ≡ given m → Sayable m
sense_said t (Between i j) f w some {m} e = by_vacant (vacant t j) e
  where
    by_vacant : (b : Bool)
        → cond b (given (offered t ColumnToColumn i j (most_into t i j))) (unless (leb 1 (fitting t i j)) 38 (given (offered t ColumnToColumn i j (fitting t i j)))) ≡ given m
        → Sayable m
    by_vacant true e =
        let q : offered t ColumnToColumn i j (most_into t i j) ≡ m = cc in
        subst Sayable q (run_said t i j (most_into t i j) f w.0 w.1 (most_some t i j some) (most_run t i j))
    by_vacant false e =
        let g = given_by (leb 1 (fitting t i j)) 38 (given (offered t ColumnToColumn i j (fitting t i j))) e in
        let h = g.1 in
        let q : offered t ColumnToColumn i j (fitting t i j) ≡ m = cc in
        subst Sayable q (run_said t i j (fitting t i j) f w.0 w.1 (leb-true 1 (fitting t i j) g.0) (fitting_run t i j))
sense_said t (Counted i j n) f w some {m} e =
    let g = given_by (count_goes t i j n) 30 (given (offered t ColumnToColumn i j n)) e in
    let h = g.1 in
    let q : offered t ColumnToColumn i j n ≡ m = cc in
    let b = count_bounds t i j n g.0 in
    let r = most_run t i j in
    subst Sayable q (run_said t i j n f w.0 w.1.0 b.0 (omega arith))
sense_said t (ToCell i c) f w some {m} e =
    let q : offered t ColumnToCell i c 1 ≡ m = cc in subst Sayable q (offered_said t ColumnToCell i c 1 refl f w.0 w.1 (omega arith) some (omega arith))
sense_said t (ToHome i) f w some {m} e =
    let q : offered t ColumnToHome i 0 1 ≡ m = cc in subst Sayable q (offered_said t ColumnToHome i 0 1 refl f w (omega arith) (omega arith) some (omega arith))
sense_said t (FromCell c j) f w some {m} e =
    let q : offered t CellToColumn c j 1 ≡ m = cc in subst Sayable q (offered_said t CellToColumn c j 1 refl f w.0 w.1 (omega arith) some (omega arith))
sense_said t (CellHome c) f w some {m} e =
    let q : offered t CellToHome c 0 1 ≡ m = cc in subst Sayable q (offered_said t CellToHome c 0 1 refl f w (omega arith) (omega arith) some (omega arith))

pub meant_said : (t : Table) (j : Jot) → Fair t → WellMade j → {m : Move} → meant t j ≡ given m → Sayable m
unfolding meant
meant_said t j f w e =
    let g = given_by (leb 1 (length (there t (origin j)))) 33 (sense t j) (given_by (leaves j) 30 _ e).1 in
    sense_said t j f w (leb-true 1 (length (there t (origin j))) g.0) g.1
