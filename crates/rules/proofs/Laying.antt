-- Laws of fit, run and limit: what the top of a column says, how a run grows and ends, how large the limit is.
use mathlib.Core.Path.{◌≡◌, refl, sym, ap, ap₂, ◌∙◌, subst}
use Rattle.std.proofs.Common.{Some, None}
use Rattle.std.specs.List.{slice_get}
use Rattle.std.proofs.lemmas.Option.{none-some, slice_get-get_or, slice_get_within, get_or_from_slice_get}
use mathlib.Core.Bool.{Bool, true, false, cond, ◌&&◌}
use mathlib.Core.List.{List, [], ◌∷◌}
use Prim.Native.Nat.{ℕ, zero, suc, ◌+◌, ◌-◌, ◌*◌, ◌/◌, ◌%◌, ◌^◌, ◌<◌, ◌≤◌}
use native.Mathlib.Nat.{le_of_suc-le-suc, le_trans, mul-le-mul_left, suc-mul}
use native.Mathlib.Numerals.{add-one}
use native.Mathlib.Omega.{arith}
use borrow.Author.Tests.{eq-eqb, ne_eqb, eqb-true, le-leb, lt-leb}
use lib.Dec.{eqb, leb}
use lib.ListN.{length, get_or, drop}
use lib.Pow.{pow_mono, pow_pos}
use Rattle.base.specs.Words.{all, sum, listed}
use Rattle.card.specs.Card.{is_card}
use Rattle.base.proofs.Words.{first, second, both, first_fails, second_fails, get_or-listed}
use Rattle.base.proofs.Sums.{sum_part, sum_ones}
use Rattle.card.proofs.Codes.{card_is}
use Rattle.board.specs.Record.{column_at}
use Rattle.board.specs.Inner.{GoodColumns}
use Rattle.board.proofs.Bits.{bit_word}
use Rattle.board.proofs.Soundness.{column_length}
use Rattle.questions.specs.Questions.{empty_cells, empty_columns}
use Rattle.runs.specs.Follows.{follows}
use Rattle.rules.specs.Fit.{fits_on}
use Rattle.runs.specs.Run.{is_run, run_length}
use Rattle.rules.specs.Limit.{usable, most_moved}

one_at_most : (t : Bool) → cond t 1 0 ≤ 1
one_at_most true = omega arith
one_at_most false = omega arith

-- ---- fit

-- the last element of a list, if it has one
pub last_of_some : (l : List ℕ) (x : ℕ) → Some x ≡ slice_get l (length l - 1) → (length l - 1 < length l) × (get_or l (length l - 1) 0 ≡ x)
last_of_some l x e = (slice_get_within l (length l - 1) x (sym e), get_or_from_slice_get l (length l - 1) x 0 (sym e))

pub last_of_none : (l : List ℕ) → None ≡ slice_get l (length l - 1) → l ≡ []
last_of_none [] e = refl
last_of_none (x ∷ l) e = absurd (none-some _ (e ∙ slice_get-get_or (x ∷ l) (length (x ∷ l) - 1) 0 (omega arith)))

pub fits_none : (l : List ℕ) (x : ℕ) → None ≡ slice_get l (length l - 1) → fits_on l x ≡ true
unfolding fits_on
fits_none l x e = rw (last_of_none l e) refl

pub fits_top : (l : List ℕ) (x n : ℕ) → length l ≡ suc n → fits_on l x ≡ follows (get_or l n 0) x
unfolding fits_on
fits_top [] x n e = absurd (let z : ⊥ = omega arith in z)
fits_top (y ∷ []) x zero e = refl
fits_top (y ∷ []) x (suc n) e = absurd (let z : ⊥ = omega arith in z)
fits_top (y ∷ z ∷ l) x zero e = absurd (let z : ⊥ = omega arith in z)
fits_top (y ∷ z ∷ l) x (suc n) e = fits_top (z ∷ l) x n (omega arith)

pub fits_last : (l : List ℕ) (x y : ℕ) → Some y ≡ slice_get l (length l - 1) → fits_on l x ≡ follows y x
fits_last l x y e =
    let last = last_of_some l y e in
    fits_top l x (length l - 1) (omega arith) ∙ ap (λ (z : ℕ). follows z x) last.1

-- ---- runs

run_cons : (x : ℕ) (l : List ℕ) → 0 < length l → is_run (x ∷ l) ≡ (follows x (get_or l 0 0) && is_run l)
unfolding is_run
run_cons x [] h = absurd (let z : ⊥ = omega arith in z)
run_cons x (y ∷ l) h = refl

pub run_one : (l : List ℕ) (n : ℕ) → length l ≡ suc n → is_run (drop n l) ≡ true
unfolding is_run
run_one [] n e = absurd (let z : ⊥ = omega arith in z)
run_one (x ∷ []) zero e = refl
run_one (x ∷ y ∷ l) zero e = absurd (let z : ⊥ = omega arith in z)
run_one (x ∷ l) (suc n) e = run_one l n (omega arith)

-- the top card alone, if there is one
pub run_first : (l : List ℕ) → 0 < length l → is_run (drop (length l - 1) l) ≡ true
run_first [] h = absurd (let z : ⊥ = omega arith in z)
run_first (x ∷ l) h = run_one (x ∷ l) (length (x ∷ l) - 1) (omega arith)

-- one card more from below
run_more : (l : List ℕ) (j : ℕ) → suc j < length l → is_run (drop (suc j) l) ≡ true → follows (get_or l j 0) (get_or l (suc j) 0) ≡ true → is_run (drop j l) ≡ true
run_more [] j h r f = absurd (let z : ⊥ = omega arith in z)
run_more (x ∷ l) zero h r f = run_cons x l (omega arith) ∙ both f r
run_more (x ∷ l) (suc j) h r f = run_more l j (le_of_suc-le-suc h) r f

-- a break anywhere
run_break : (l : List ℕ) (j : ℕ) → suc j < length l → follows (get_or l j 0) (get_or l (suc j) 0) ≡ false → is_run l ≡ false
run_break [] j h f = absurd (let z : ⊥ = omega arith in z)
run_break (x ∷ l) zero h f = run_cons x l (omega arith) ∙ first_fails (follows x (get_or l 0 0)) (is_run l) f
run_break (x ∷ l) (suc j) h f =
    run_cons x l (omega arith) ∙ second_fails (follows x (get_or l 0 0)) (is_run l) (run_break l j (le_of_suc-le-suc h) f)

run_whole : (l : List ℕ) → is_run l ≡ true → run_length l ≡ length l
unfolding run_length
run_whole [] r = refl
run_whole (x ∷ l) r = rw r

run_ends : (l : List ℕ) (j : ℕ) → suc j < length l → is_run (drop (suc j) l) ≡ true → follows (get_or l j 0) (get_or l (suc j) 0) ≡ false
    → run_length l ≡ length l - suc j
unfolding run_length
run_ends [] j h r f = absurd (let z : ⊥ = omega arith in z)
run_ends (x ∷ l) zero h r f = rw (run_break (x ∷ l) 0 h f) (run_whole l r ∙ (let e : length l ≡ suc (length l) - 1 = omega arith in e))
run_ends (x ∷ l) (suc j) h r f =
    rw (run_break (x ∷ l) (suc j) h f) (run_ends l j (le_of_suc-le-suc h) r f ∙ (let e : length l - suc j ≡ suc (length l) - suc (suc j) = omega arith in e))

pub run_at_most : (l : List ℕ) → run_length l ≤ length l
unfolding run_length
run_at_most [] = omega arith
run_at_most (x ∷ l) = by_run (is_run (x ∷ l)) (run_at_most l)
  where
    by_run : (t : Bool) → run_length l ≤ length l → cond t (suc (length l)) (run_length l) ≤ suc (length l)
    by_run true e = omega arith
    by_run false e = omega arith

-- what ends a run is a run
run_rest : (l : List ℕ) (j : ℕ) → j < length l → is_run l ≡ true → is_run (drop j l) ≡ true
run_rest [] j h r = absurd (let z : ⊥ = omega arith in z)
run_rest (x ∷ l) zero h r = r
run_rest (x ∷ l) (suc j) h r =
    run_rest l j (le_of_suc-le-suc h) (second (follows x (get_or l 0 0)) (is_run l) (sym (run_cons x l (omega arith)) ∙ r))

-- the last cards of a column are a run exactly if there are no more of them than its longest run has
pub run_top : (l : List ℕ) (j : ℕ) → j < length l → is_run (drop j l) ≡ leb (length l - j) (run_length l)
unfolding run_length
run_top [] j h = absurd (let z : ⊥ = omega arith in z)
run_top (x ∷ l) zero h = by_run (is_run (x ∷ l)) refl
  where
    by_run : (t : Bool) → is_run (x ∷ l) ≡ t → is_run (x ∷ l) ≡ leb (suc (length l) - 0) (cond t (suc (length l)) (run_length l))
    by_run true e = e ∙ sym (le-leb (suc (length l) - 0) (suc (length l)) (omega arith))
    by_run false e = e ∙ sym (lt-leb (suc (length l) - 0) (run_length l) (let m = run_at_most l in omega arith))
run_top (x ∷ l) (suc j) h = by_run (is_run (x ∷ l)) refl (run_top l j (le_of_suc-le-suc h))
  where
    by_run : (t : Bool) → is_run (x ∷ l) ≡ t → is_run (drop j l) ≡ leb (length l - j) (run_length l)
        → is_run (drop j l) ≡ leb (suc (length l) - suc j) (cond t (suc (length l)) (run_length l))
    by_run true e i = run_rest (x ∷ l) (suc j) h e ∙ sym (le-leb (suc (length l) - suc j) (suc (length l)) (omega arith))
    by_run false e i = i ∙ ap (λ (n : ℕ). leb n (run_length l)) (let q : length l - j ≡ suc (length l) - suc j = omega arith in q)

-- the run of `run` cards on top of l, and the card under it
module _ (l : List ℕ) (run : ℕ) (one : 1 ≤ run) (some : run < length l) where
  abbrev upper : ℕ
  upper = length l - suc run

  abbrev lower : ℕ
  lower = length l - run

  next : lower ≡ suc upper
  next = omega arith

  step : {t : Bool} → follows (get_or l (lower - 1) 0) (get_or l lower 0) ≡ t → follows (get_or l upper 0) (get_or l (suc upper) 0) ≡ t
  step f =
      sym (ap₂ (λ (j k : ℕ). follows (get_or l j 0) (get_or l k 0)) (let q : lower - 1 ≡ upper = omega arith in q) next) ∙ f

  pub run_grows : is_run (drop lower l) ≡ true → follows (get_or l (lower - 1) 0) (get_or l lower 0) ≡ true → is_run (drop (length l - (run + 1)) l) ≡ true
  run_grows r f =
      subst (λ (k : ℕ). is_run (drop k l) ≡ true) (let q : upper ≡ length l - (run + 1) = omega arith in q)
      (run_more l upper (omega arith) (subst (λ (k : ℕ). is_run (drop k l) ≡ true) next r) (step f))

  pub run_stops : is_run (drop lower l) ≡ true → follows (get_or l (lower - 1) 0) (get_or l lower 0) ≡ false → run ≡ run_length l
  run_stops r f =
      let q = run_ends l upper (omega arith) (subst (λ (k : ℕ). is_run (drop k l) ≡ true) next r) (step f) in
      omega arith

pub run_all : (l : List ℕ) (run : ℕ) → length l ≤ run → (0 < length l → is_run (drop (length l - run) l) ≡ true) → length l ≡ run_length l
unfolding run_length
run_all [] run a r = refl
run_all (x ∷ l) run a r =
    sym (run_whole (x ∷ l) (subst (λ (k : ℕ). is_run (drop k (x ∷ l)) ≡ true) (let z : length (x ∷ l) - run ≡ 0 = omega arith in z) (r (omega arith))))

-- a run's deepest card is at least as high as the run is long
run_deep : (x : ℕ) (l : List ℕ) → all is_card (x ∷ l) ≡ true → is_run (x ∷ l) ≡ true → suc (length l) ≤ x / 16
unfolding all is_run follows
run_deep x [] c r = let v = card_is x (first (is_card x) _ c) in omega arith
run_deep x (y ∷ l) c r =
    let rest = run_deep y l (second (is_card x) _ c) (second (follows x y) (is_run (y ∷ l)) r) in
    let step = eqb-true (x / 16) (y / 16 + 1) (first (eqb (x / 16) (y / 16 + 1)) _ (first (follows x y) (is_run (y ∷ l)) r)) in
    omega arith

-- so no run has more than 13 cards
pub run_13 : (l : List ℕ) → all is_card l ≡ true → run_length l ≤ 13
unfolding run_length all
run_13 [] c = omega arith
run_13 (x ∷ l) c = by_run (is_run (x ∷ l)) refl (run_13 l (second (is_card x) (all is_card l) c))
  where
    by_run : (t : Bool) → is_run (x ∷ l) ≡ t → run_length l ≤ 13 → cond t (suc (length l)) (run_length l) ≤ 13
    by_run true e rest = let d = run_deep x l c e in let v = card_is x (first (is_card x) (all is_card l) c) in omega arith
    by_run false e rest = rest

-- ---- the limit

pub column_count : {counts tableau : List ℕ} → GoodColumns counts tableau → (i : ℕ) → i < 8
    → length (get_or (listed 8 (column_at counts tableau)) i []) ≡ get_or counts i 0
column_count {counts} {tableau} g i h = ap length (get_or-listed (column_at counts tableau) 8 i [] h) ∙ column_length g i h

pub empty_at_most : (columns : List (List ℕ)) → empty_columns columns ≤ 8
unfolding empty_columns
empty_at_most columns = sum_ones (λ i. cond (eqb (length (get_or columns i [])) 0) 1 0) 8 (λ k h. one_at_most (eqb (length (get_or columns k [])) 0))

pub cells_at_most : (cells : List ℕ) → empty_cells cells ≤ 4
unfolding empty_cells
cells_at_most cells = sum_ones (λ i. cond (eqb (get_or cells i 0) 255) 1 0) 4 (λ k h. one_at_most (eqb (get_or cells k 0) 255))

pub some_empty : (columns : List (List ℕ)) (to : ℕ) → to < 8 → length (get_or columns to []) ≡ 0 → 1 ≤ empty_columns columns
unfolding empty_columns
some_empty columns to h e =
    let p = sum_part (λ i. cond (eqb (length (get_or columns i [])) 0) 1 0) 8 to h in
    subst (λ (n : ℕ). n ≤ sum 8 (λ i. cond (eqb (length (get_or columns i [])) 0) 1 0)) (rw (eq-eqb (length (get_or columns to [])) 0 e)) p

module _ (columns : List (List ℕ)) (to : ℕ) where
  pub usable_empty : length (get_or columns to []) ≡ 0 → usable columns to ≡ empty_columns columns - 1
  unfolding usable
  usable_empty e = rw (eq-eqb (length (get_or columns to [])) 0 e)

  pub usable_other : (length (get_or columns to []) ≡ 0 → ⊥) → usable columns to ≡ empty_columns columns
  unfolding usable
  usable_other d = rw (ne_eqb (length (get_or columns to [])) 0 d) (omega arith)

  pub usable_at_most : usable columns to ≤ 8
  unfolding usable
  usable_at_most = let e = empty_at_most columns in omega arith

module _ (cells : List ℕ) (columns : List (List ℕ)) (to : ℕ) where
  -- the limit as the code works it out
  pub most_word : {a u : ℕ} → a ≡ empty_cells cells → u ≡ usable columns to → (a + 1) * ((1 * 2 ^ u) % 2 ^ 64) ≡ most_moved cells columns to
  unfolding most_moved
  most_word {a} {u} p q =
      ap (λ (n : ℕ). (a + 1) * n) (bit_word u (let b = usable_at_most columns to in omega arith))
      ∙ ap (λ (n : ℕ). (n + 1) * 2 ^ u) p ∙ ap (λ (n : ℕ). (empty_cells cells + 1) * 2 ^ n) q

  pub most_at_most : most_moved cells columns to ≤ 1280
  unfolding most_moved
  most_at_most =
      let p = pow_mono (usable_at_most columns to) in
      let c = cells_at_most cells in
      le_trans (mul-le-mul_left (empty_cells cells + 1) p) (let q : (empty_cells cells + 1) * 256 ≤ 1280 = omega arith in q)

  pub most_one : 1 ≤ most_moved cells columns to
  unfolding most_moved
  most_one = let p = pow_pos (usable columns to) in le_trans p (one_le_mul (empty_cells cells) (2 ^ usable columns to))
    where
      one_le_mul : (n m : ℕ) → m ≤ (n + 1) * m
      one_le_mul n m = rw (add-one, suc-mul) (omega arith)
