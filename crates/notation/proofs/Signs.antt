-- What each sign does where something is due.
use mathlib.Core.Path.{◌≡◌, refl, ap}
use mathlib.Core.Bool.{Bool, true, false, cond, ◌||◌}
use Prim.Native.Nat.{ℕ, ◌+◌, ◌-◌, ◌<◌, ◌≤◌}
use native.Mathlib.Omega.{arith}
use borrow.Author.Tests.{le-leb, lt-leb, leb-true, ltb-true, ltb-false}
use lib.Dec.{leb, ltb}
use Rattle.base.proofs.Words.{both, first, second, second_fails}
use Rattle.notation.specs.Jot.{column_sign, cell_sign, home_sign, count_sign, digit_sign, space}
use Rattle.notation.specs.Form.{within, is_digit, digit_said, step_from}
use Rattle.notation.specs.declared.Jot.{Jot}
use Rattle.notation.specs.declared.Jot.TheVariants.{Between, Counted, ToCell, ToHome, FromCell, CellHome}
use Rattle.notation.specs.declared.Due.TheVariants.{Source, OfColumn, OfCell, Pair, Digit, Whole}
use Rattle.notation.specs.declared.Step.TheVariants.{On, Ends}

-- ---- a sign in a range

module _ (low high x : ℕ) where
  pub within_yes : low ≤ x → x ≤ high → within low high x ≡ true
  unfolding within
  within_yes a b = both (le-leb low x a) (le-leb x high b)

  pub within-over : high < x → within low high x ≡ false
  unfolding within
  within-over h = second_fails (leb low x) (leb x high) (lt-leb x high h)

  pub within_is : within low high x ≡ true → (low ≤ x) × (x ≤ high)
  unfolding within
  within_is e = (leb-true low x (first (leb low x) (leb x high) e), leb-true x high (second (leb low x) (leb x high) e))

-- ---- the digits

or_right : (a b : Bool) → b ≡ true → (a || b) ≡ true
or_right true b e = refl
or_right false b e = e

or_left : (a b : Bool) → a ≡ true → (a || b) ≡ true
or_left a b e = rw e

pub digit_sign_lem : (n : ℕ) → n < 16 → is_digit (digit_sign n) ≡ true
unfolding digit_sign
digit_sign_lem n h = by_size (ltb n 10) refl
  where
    by_size : (b : Bool) → ltb n 10 ≡ b → is_digit (cond b (48 + n) (87 + n)) ≡ true
    by_size true e = or_left _ _ (within_yes 48 57 (48 + n) (omega arith) (let l = ltb-true n 10 e in omega arith))
    by_size false e =
        or_right (within 48 57 (87 + n)) (within 97 102 (87 + n))
        (let l = ltb-false n 10 e in within_yes 97 102 (87 + n) (omega arith) (omega arith))

pub digit_back : (n : ℕ) → n < 16 → digit_said (digit_sign n) ≡ n
unfolding digit_sign digit_said
digit_back n h = by_size (ltb n 10) refl
  where
    by_size : (b : Bool) → ltb n 10 ≡ b → cond (leb (cond b (48 + n) (87 + n)) 57) (cond b (48 + n) (87 + n) - 48) (cond b (48 + n) (87 + n) - 87) ≡ n
    by_size true e = let l = ltb-true n 10 e in rw (le-leb (48 + n) 57 (omega arith)) (omega arith)
    by_size false e = let l = ltb-false n 10 e in rw (lt-leb (87 + n) 57 (omega arith)) (omega arith)

-- ---- the signs of a move

module _ (i : ℕ) (h : i < 8) where
  pub from_column : step_from Source (column_sign i) ≡ On (OfColumn i)
  unfolding step_from
  from_column = rw (within_yes 49 56 (49 + i) (omega arith) (omega arith)) (ap (λ (k : ℕ). On (OfColumn k)) (let q : 49 + i - 49 ≡ i = omega arith in q))

  pub onto_column : (s : ℕ) → step_from (OfColumn s) (column_sign i) ≡ On (Pair s i)
  unfolding step_from
  onto_column s = rw (within_yes 49 56 (49 + i) (omega arith) (omega arith)) (ap (λ (k : ℕ). On (Pair s k)) (let q : 49 + i - 49 ≡ i = omega arith in q))

  pub cell_onto : (c : ℕ) → step_from (OfCell c) (column_sign i) ≡ On (Whole (FromCell c i))
  unfolding step_from
  cell_onto c =
      rw (within_yes 49 56 (49 + i) (omega arith) (omega arith)) (ap (λ (k : ℕ). On (Whole (FromCell c k))) (let q : 49 + i - 49 ≡ i = omega arith in q))

module _ (c : ℕ) (h : c < 4) where
  pub from_cell : step_from Source (cell_sign c) ≡ On (OfCell c)
  unfolding step_from
  from_cell =
      rw (within-over 49 56 (97 + c) (omega arith), within_yes 97 100 (97 + c) (omega arith) (omega arith))
      (ap (λ (k : ℕ). On (OfCell k)) (let q : 97 + c - 97 ≡ c = omega arith in q))

  pub onto_cell : (s : ℕ) → step_from (OfColumn s) (cell_sign c) ≡ On (Whole (ToCell s c))
  unfolding step_from
  onto_cell s =
      rw (within-over 49 56 (97 + c) (omega arith), within_yes 97 100 (97 + c) (omega arith) (omega arith))
      (ap (λ (k : ℕ). On (Whole (ToCell s k))) (let q : 97 + c - 97 ≡ c = omega arith in q))

pub column_home : (s : ℕ) → step_from (OfColumn s) home_sign ≡ On (Whole (ToHome s))
unfolding step_from within
column_home s = refl

pub cell_home : (c : ℕ) → step_from (OfCell c) home_sign ≡ On (Whole (CellHome c))
unfolding step_from within
cell_home c = refl

pub count_due : (i j : ℕ) → step_from (Pair i j) count_sign ≡ On (Digit i j)
unfolding step_from
count_due i j = refl

pub digit_due : (i j n : ℕ) → n < 16 → step_from (Digit i j) (digit_sign n) ≡ On (Whole (Counted i j n))
unfolding step_from
digit_due i j n h = rw (digit_sign_lem n h) (ap (λ (k : ℕ). On (Whole (Counted i j k))) (digit_back n h))

pub pair_ends : (i j : ℕ) → step_from (Pair i j) space ≡ Ends (Between i j)
unfolding step_from
pair_ends i j = refl

pub whole_ends : (j : Jot) → step_from (Whole j) space ≡ Ends j
unfolding step_from
whole_ends j = refl
