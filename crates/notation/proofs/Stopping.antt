-- The place of the first wrong sign: what comes before it can be completed to a line, and no line begins with it too. What is read is
-- well made.
use mathlib.Core.Path.{◌≡◌, refl, ap, ◌∙◌, subst}
use mathlib.Core.Bool.{Bool, true, false, cond, ◌||◌}
use mathlib.Core.List.{List, [], ◌∷◌, ◌++◌}
use Prim.Native.Nat.{ℕ, zero, suc, ◌+◌, ◌-◌, ◌<◌, ◌≤◌}
use native.Mathlib.Omega.{arith}
use borrow.Author.Tests.{leb-true}
use lib.Dec.{eqb, leb}
use lib.ListN.{length, take, length-append}
use lib.Seq.{length-take-le}
use Rattle.notation.specs.Jot.{home_sign, count_sign, space, WellMade, AllWell}
use Rattle.notation.specs.Form.{within, is_column, is_cell_sign, is_digit, digit_said, step_from, Reading, jots, wrong, also, ending, onward, read_from, line_in}
use Rattle.notation.specs.declared.Jot.{Jot}
use Rattle.notation.specs.declared.Jot.TheVariants.{Between, Counted, ToHome, CellHome}
use Rattle.notation.specs.declared.Due.{Due}
use Rattle.notation.specs.declared.Due.TheVariants.{Source, OfColumn, OfCell, Pair, Digit, Whole}
use Rattle.notation.specs.declared.Step.{Step}
use Rattle.notation.specs.declared.Step.TheVariants.{On, Ends, Wrong}
use Rattle.notation.proofs.Signs.{within_is}
use Rattle.notation.proofs.Forming.{by_test, some_text}

-- ---- what is read is well made

abbrev pub WellDue : Due → Type 0
WellDue Source = Unit {0}
WellDue (OfColumn i) = i < 8
WellDue (OfCell c) = c < 4
WellDue (Pair i j) = (i < 8) × (j < 8)
WellDue (Digit i j) = (i < 8) × (j < 8)
WellDue (Whole j) = WellMade j

abbrev pub WellStep : Step → Type 0
WellStep (On d) = WellDue d
WellStep (Ends j) = WellMade j
WellStep Wrong = Unit {0}

abbrev WellRead : Reading → Type 0
WellRead (jots js) = AllWell js
WellRead (wrong p) = Unit {0}

column_below : (x : ℕ) → is_column x ≡ true → x - 49 < 8
column_below x e = let w = within_is 49 56 x e in omega arith

cell_below : (x : ℕ) → is_cell_sign x ≡ true → x - 97 < 4
cell_below x e = let w = within_is 97 100 x e in omega arith

digit_below : (x : ℕ) → is_digit x ≡ true → digit_said x < 16
unfolding digit_said
digit_below x e = by_range (within 48 57 x) refl e (leb x 57) refl
  where
    by_range : (a : Bool) → within 48 57 x ≡ a → (a || within 97 102 x) ≡ true → (b : Bool) → leb x 57 ≡ b → cond b (x - 48) (x - 87) < 16
    by_range true q f true l = let w = within_is 48 57 x q in omega arith
    by_range true q f false l = let w = within_is 48 57 x q in omega arith
    by_range false q f true l = let w = within_is 97 102 x f in let s = leb-true x 57 l in omega arith
    by_range false q f false l = let w = within_is 97 102 x f in omega arith

pub step_well : (d : Due) (x : ℕ) → WellDue d → WellStep (step_from d x)
unfolding step_from
step_well Source x w =
    by_test WellStep (is_column x) _ _ (column_below x) (λ n. by_test WellStep (is_cell_sign x) _ _ (cell_below x) (λ m. tt))
step_well (OfColumn i) x w =
    by_test WellStep (is_column x) _ _ (λ e. (w, column_below x e))
    (λ n. by_test WellStep (is_cell_sign x) _ _ (λ e. (w, cell_below x e)) (λ m. by_test WellStep (eqb x home_sign) _ _ (λ e. w) (λ l. tt)))
step_well (OfCell c) x w =
    by_test WellStep (is_column x) _ _ (λ e. (w, column_below x e)) (λ n. by_test WellStep (eqb x home_sign) _ _ (λ e. w) (λ l. tt))
step_well (Pair i j) x w = by_test WellStep (eqb x space) _ _ (λ e. w) (λ n. by_test WellStep (eqb x count_sign) _ _ (λ e. w) (λ l. tt))
step_well (Digit i j) x w = by_test WellStep (is_digit x) _ _ (λ e. (w.0, (w.1, digit_below x e))) (λ n. tt)
step_well (Whole j) x w = by_test WellStep (eqb x space) _ _ (λ e. w) (λ n. tt)

end_well : (d : Due) (at : ℕ) → WellDue d → WellRead (ending d at)
end_well Source at w = tt
end_well (OfColumn i) at w = tt
end_well (OfCell c) at w = tt
end_well (Pair i j) at w = (w, tt)
end_well (Digit i j) at w = tt
end_well (Whole j) at w = (w, tt)

also_well : (j : Jot) (r : Reading) → WellMade j → WellRead r → WellRead (also j r)
also_well j (jots js) w v = (w, v)
also_well j (wrong p) w v = tt

read_well : (d : Due) (at : ℕ) (text : List ℕ) → WellDue d → WellRead (read_from d at text)
unfolding read_from
read_well d at [] w = end_well d at w
read_well d at (x ∷ text) w = by_step (step_from d x) (step_well d x w) (λ e. read_well e (suc at) text)
  where
    by_step : (s : Step) → WellStep s → ((e : Due) → WellDue e → WellRead (read_from e (suc at) text)) → WellRead (onward s at (λ e. read_from e (suc at) text))
    by_step (On e) v h = h e v
    by_step (Ends j) v h = also_well j (read_from Source (suc at) text) v (h Source tt)
    by_step Wrong v h = tt

line_well : (text : List ℕ) → WellRead (line_in text)
unfolding line_in
line_well [] = tt
line_well (x ∷ text) = read_well Source 0 (x ∷ text) tt

pub form_well : (text : List ℕ) {js : List Jot} → line_in text ≡ jots js → AllWell js
form_well text e = subst WellRead e (line_well text)

-- ---- the place

-- a reading that is wrong is wrong nowhere before or after these places
abbrev Within : Reading → ℕ → ℕ → Type 0
Within (jots js) low high = Unit {0}
Within (wrong p) low high = (low ≤ p) × (p ≤ high)

also-within : (j : Jot) (r : Reading) (low high : ℕ) → Within r low high → Within (also j r) low high
also-within j (jots js) low high w = tt
also-within j (wrong p) low high w = w

wider : (r : Reading) (low high more : ℕ) → high ≡ more → Within r (suc low) high → Within r low more
wider (jots js) low high more q w = tt
wider (wrong p) low high more q w = (omega arith, omega arith)

end_within : (d : Due) (at : ℕ) → Within (ending d at) at (at + 0)
end_within Source at = (omega arith, omega arith)
end_within (OfColumn i) at = (omega arith, omega arith)
end_within (OfCell c) at = (omega arith, omega arith)
end_within (Pair i j) at = tt
end_within (Digit i j) at = (omega arith, omega arith)
end_within (Whole j) at = tt

read_within : (d : Due) (at : ℕ) (text : List ℕ) → Within (read_from d at text) at (at + length text)
unfolding read_from
read_within d at [] = end_within d at
read_within d at (x ∷ text) = by_step (step_from d x) (λ e. wider (read_from e (suc at) text) at (suc at + length text) (at + suc (length text)) (omega arith) (read_within e (suc at) text))
  where
    by_step : (s : Step) → ((e : Due) → Within (read_from e (suc at) text) at (at + suc (length text))) → Within (onward s at (λ e. read_from e (suc at) text)) at (at + suc (length text))
    by_step (On e) h = h e
    by_step (Ends j) h = also-within j (read_from Source (suc at) text) at (at + suc (length text)) (h Source)
    by_step Wrong h = (omega arith, omega arith)

-- ---- what comes before the wrong sign can be completed

-- a line
pub record Line (text : List ℕ) : Type 0 where
  pub moves : List Jot
  pub reads : line_in text ≡ jots moves

record Completes (d : Due) (at : ℕ) (begun : List ℕ) : Type 0 where
  more : List ℕ
  moves : List Jot
  reads : read_from d at (begun ++ more) ≡ jots moves

-- 1h, h, h, nothing, a digit, nothing
complete : (d : Due) (at : ℕ) → Completes d at []
unfolding read_from step_from within
complete Source at = record { more = 49 ∷ 104 ∷ []; moves = ToHome 0 ∷ []; reads = refl }
complete (OfColumn i) at = record { more = 104 ∷ []; moves = ToHome i ∷ []; reads = refl }
complete (OfCell c) at = record { more = 104 ∷ []; moves = CellHome c ∷ []; reads = refl }
complete (Pair i j) at = record { more = []; moves = Between i j ∷ []; reads = refl }
complete (Digit i j) at = record { more = 49 ∷ []; moves = Counted i j (digit_said 49) ∷ []; reads = refl }
complete (Whole j) at = record { more = []; moves = j ∷ []; reads = refl }

-- one sign more
complete_on : (d e : Due) (at x : ℕ) (begun : List ℕ) → step_from d x ≡ On e → Completes e (suc at) begun → Completes d at (x ∷ begun)
unfolding read_from
complete_on d e at x begun q c =
    record { more = c.more; moves = c.moves; reads = ap (λ (s : Step). onward s at (λ f. read_from f (suc at) (begun ++ c.more))) q ∙ c.reads }

complete_ends : (d : Due) (j : Jot) (at x : ℕ) (begun : List ℕ) → step_from d x ≡ Ends j → Completes Source (suc at) begun → Completes d at (x ∷ begun)
unfolding read_from
complete_ends d j at x begun q c =
    record {
      more = c.more;
      moves = j ∷ c.moves;
      reads = ap (λ (s : Step). onward s at (λ f. read_from f (suc at) (begun ++ c.more))) q ∙ ap (also j) c.reads;
    }

-- the reading of what follows a move is wrong where both are
also_wrong : (j : Jot) (r : Reading) {p : ℕ} → also j r ≡ wrong p → r ≡ wrong p
also_wrong j (jots js) e = let z : ◌≡◌ {A = ℕ} 0 1 = cc in absurd (let w : ⊥ = omega arith in w)
also_wrong j (wrong q) e = e

-- nothing is wrong before a place that is passed
not_yet : (d : Due) (at : ℕ) (text : List ℕ) {A : Type 0} → read_from d (suc at) text ≡ wrong (at + 0) → A
not_yet d at text e = absurd (let w = subst (λ (r : Reading). Within r (suc at) (suc at + length text)) e (read_within d (suc at) text) in let z : ⊥ = omega arith in z)

one_on : (d : Due) (at k : ℕ) (text : List ℕ) → read_from d (suc at) text ≡ wrong (at + suc k) → read_from d (suc at) text ≡ wrong (suc at + k)
one_on d at k text e = e ∙ ap (λ (n : ℕ). wrong n) (let q : at + suc k ≡ suc at + k = omega arith in q)

begins : (d : Due) (at : ℕ) (text : List ℕ) (k : ℕ) → read_from d at text ≡ wrong (at + k) → Completes d at (take k text)
unfolding read_from
begins d at text zero e = complete d at
begins d at [] (suc k) e = complete d at
begins d at (x ∷ text) (suc k) e = by_step (step_from d x) refl e (λ f. begins f (suc at) text k)
  where
    by_step : (s : Step) → step_from d x ≡ s → onward s at (λ f. read_from f (suc at) text) ≡ wrong (at + suc k)
        → ((f : Due) → read_from f (suc at) text ≡ wrong (suc at + k) → Completes f (suc at) (take k text)) → Completes d at (x ∷ take k text)
    by_step (On f) q e h = complete_on d f at x (take k text) q (h f (one_on f at k text e))
    by_step (Ends j) q e h =
        complete_ends d j at x (take k text) q (h Source (one_on Source at k text (also_wrong j (read_from Source (suc at) text) e)))
    by_step Wrong q e h = absurd (let n : at ≡ at + suc k = cc in let z : ⊥ = omega arith in z)

-- ---- no line begins with the wrong sign

blocks : (d : Due) (at : ℕ) (text : List ℕ) (k : ℕ) → read_from d at text ≡ wrong (at + k) → k < length text
    → (more : List ℕ) → read_from d at (take (suc k) text ++ more) ≡ wrong (at + k)
unfolding read_from
blocks d at [] k e h more = absurd (let z : ⊥ = omega arith in z)
blocks d at (x ∷ text) zero e h more = by_step (step_from d x) e
  where
    by_step : (s : Step) → onward s at (λ f. read_from f (suc at) text) ≡ wrong (at + 0) → onward s at (λ f. read_from f (suc at) more) ≡ wrong (at + 0)
    by_step (On f) e = not_yet f at text e
    by_step (Ends j) e = not_yet Source at text (also_wrong j (read_from Source (suc at) text) e)
    by_step Wrong e = e
blocks d at (x ∷ text) (suc k) e h more = by_step (step_from d x) e (λ f g. blocks f (suc at) text k g (omega arith) more)
  where
    rest : List ℕ
    rest = take (suc k) text ++ more

    back : (f : Due) → read_from f (suc at) rest ≡ wrong (suc at + k) → read_from f (suc at) rest ≡ wrong (at + suc k)
    back f e = e ∙ ap (λ (n : ℕ). wrong n) (let q : suc at + k ≡ at + suc k = omega arith in q)

    by_step : (s : Step) → onward s at (λ f. read_from f (suc at) text) ≡ wrong (at + suc k)
        → ((f : Due) → read_from f (suc at) text ≡ wrong (suc at + k) → read_from f (suc at) rest ≡ wrong (suc at + k))
        → onward s at (λ f. read_from f (suc at) rest) ≡ wrong (at + suc k)
    by_step (On f) e g = back f (g f (one_on f at k text e))
    by_step (Ends j) e g = ap (also j) (back Source (g Source (one_on Source at k text (also_wrong j (read_from Source (suc at) text) e))))
    by_step Wrong e g = e

-- ---- of a whole text

from_start : (text : List ℕ) {js : List Jot} → read_from Source 0 text ≡ jots js → line_in text ≡ jots js
unfolding read_from line_in
from_start [] e = let z : ◌≡◌ {A = ℕ} 0 1 = cc in absurd (let w : ⊥ = omega arith in w)
from_start (x ∷ text) e = e

wrong_start : (text : List ℕ) {p : ℕ} → line_in text ≡ wrong p → read_from Source 0 text ≡ wrong (0 + p)
unfolding line_in
wrong_start [] e = let z : ◌≡◌ {A = ℕ} 0 1 = cc in absurd (let w : ⊥ = omega arith in w)
wrong_start (x ∷ text) {p} e = e ∙ ap (λ (n : ℕ). wrong n) (let q : p ≡ 0 + p = omega arith in q)

module _ (text : List ℕ) {p : ℕ} (e : line_in text ≡ wrong p) where
  in_text : read_from Source 0 text ≡ wrong (0 + p)
  in_text = wrong_start text e

  -- the place is within the text, or is its length if it is cut short
  pub place_within : p ≤ length text
  place_within =
      let w = subst (λ (r : Reading). Within r 0 (0 + length text)) in_text (read_within Source 0 text) in omega arith

  -- some line begins with all before it
  pub place_begins : (more : List ℕ) × Line (take p text ++ more)
  place_begins =
      let c = begins Source 0 text p in_text in
      (c.more, record { moves = c.moves; reads = from_start (take p text ++ c.more) c.reads })

  -- and none with the sign there too
  pub place_blocks : p < length text → (more : List ℕ) → Line (take (suc p) text ++ more) → ⊥
  place_blocks h more l =
      let b = blocks Source 0 text p in_text h more in
      let s = some_text (take (suc p) text ++ more) (let a = length-append (take (suc p) text) more in let t = length-take-le (suc p) text (omega arith) in omega arith) in
      let r = l.reads in
      let z : ◌≡◌ {A = ℕ} 0 1 = cc in
      omega arith
