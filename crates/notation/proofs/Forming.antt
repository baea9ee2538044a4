-- Text and form say each other: a written line reads back to its moves, and a text in form is the text of the moves read.
use mathlib.Core.Path.{◌≡◌, refl, sym, ap, ap₂, ◌∙◌, subst}
use mathlib.Core.Bool.{Bool, true, false, cond, ◌||◌}
use mathlib.Core.List.{List, [], ◌∷◌, ◌++◌, append_assoc, append-nil}
use Prim.Native.Nat.{ℕ, suc, ◌+◌, ◌-◌, ◌*◌, ◌≤◌}
use native.Mathlib.Omega.{arith}
use borrow.Author.Tests.{eqb-true, le-ltb, lt-ltb, leb-true, leb-false}
use lib.Dec.{eqb, leb, ltb}
use lib.ListN.{length, length-append}
use Rattle.notation.specs.Jot.{column_sign, cell_sign, home_sign, count_sign, digit_sign, space, jot_text, line_text, WellMade, AllWell}
use Rattle.notation.specs.Form.{within, is_column, is_cell_sign, is_digit, digit_said, step_from, Reading, jots, wrong, also, ending, onward, read_from, line_in}
use Rattle.notation.specs.declared.Jot.{Jot}
use Rattle.notation.specs.declared.Jot.TheVariants.{Between, Counted, ToCell, ToHome, FromCell, CellHome}
use Rattle.notation.specs.declared.Due.{Due}
use Rattle.notation.specs.declared.Due.TheVariants.{Source, OfColumn, OfCell, Pair, Digit, Whole}
use Rattle.notation.specs.declared.Step.{Step}
use Rattle.notation.specs.declared.Step.TheVariants.{On, Ends, Wrong}
use Rattle.notation.proofs.Signs.{within_is, from_column, onto_column, cell_onto, from_cell, onto_cell, column_home, cell_home, count_due, digit_due, pair_ends, whole_ends}

-- ---- a written line reads back

-- what is due after a move's signs, and the place then
abbrev pub due_after : Jot → Due
due_after (Between i j) = Pair i j
due_after (Counted i j n) = Whole (Counted i j n)
due_after (ToCell i c) = Whole (ToCell i c)
due_after (ToHome i) = Whole (ToHome i)
due_after (FromCell c j) = Whole (FromCell c j)
due_after (CellHome c) = Whole (CellHome c)

abbrev pub past : Jot → ℕ → ℕ
past (Between i j) at = suc (suc at)
past (Counted i j n) at = suc (suc (suc (suc at)))
past (ToCell i c) at = suc (suc at)
past (ToHome i) at = suc (suc at)
past (FromCell c j) at = suc (suc at)
past (CellHome c) at = suc (suc at)

-- the signs of a move, and then the rest of the text
pub jot_read : (j : Jot) → WellMade j → (at : ℕ) (rest : List ℕ) → read_from Source at (jot_text j ++ rest) ≡ read_from (due_after j) (past j at) rest
unfolding read_from jot_text
jot_read (Between i j) w at rest = rw (from_column i w.0, onto_column j w.1 i)
jot_read (Counted i j n) w at rest = rw (from_column i w.0, onto_column j w.1.0 i, count_due i j, digit_due i j n w.1.1)
jot_read (ToCell i c) w at rest = rw (from_column i w.0, onto_cell c w.1 i)
jot_read (ToHome i) w at rest = rw (from_column i w, column_home i)
jot_read (FromCell c j) w at rest = rw (from_cell c w.0, cell_onto j w.1 c)
jot_read (CellHome c) w at rest = rw (from_cell c w, cell_home c)

-- the text may end there, and a space ends the move
pub jot_last : (j : Jot) (at : ℕ) → read_from (due_after j) at [] ≡ jots (j ∷ [])
unfolding read_from
jot_last (Between i j) at = refl
jot_last (Counted i j n) at = refl
jot_last (ToCell i c) at = refl
jot_last (ToHome i) at = refl
jot_last (FromCell c j) at = refl
jot_last (CellHome c) at = refl

space_ends : (j : Jot) → step_from (due_after j) space ≡ Ends j
space_ends (Between i j) = pair_ends i j
space_ends (Counted i j n) = whole_ends (Counted i j n)
space_ends (ToCell i c) = whole_ends (ToCell i c)
space_ends (ToHome i) = whole_ends (ToHome i)
space_ends (FromCell c j) = whole_ends (FromCell c j)
space_ends (CellHome c) = whole_ends (CellHome c)

pub jot_more : (j : Jot) (at : ℕ) (rest : List ℕ) → read_from (due_after j) at (space ∷ rest) ≡ also j (read_from Source (suc at) rest)
unfolding read_from
jot_more j at rest = ap (λ (s : Step). onward s at (λ e. read_from e (suc at) rest)) (space_ends j)

form_from : (j : Jot) (js : List Jot) → AllWell (j ∷ js) → (at : ℕ) → read_from Source at (line_text (j ∷ js)) ≡ jots (j ∷ js)
unfolding line_text
form_from j [] w at =
    ap (read_from Source at) (sym (append-nil (jot_text j))) ∙ jot_read j w.0 at [] ∙ jot_last j (past j at)
form_from j (k ∷ js) w at =
    jot_read j w.0 at (space ∷ line_text (k ∷ js)) ∙ jot_more j (past j at) (line_text (k ∷ js)) ∙ ap (also j) (form_from k js w.1 (suc (past j at)))

-- a text that is not empty
pub some_text : (text : List ℕ) → 1 ≤ length text → line_in text ≡ read_from Source 0 text
unfolding line_in
some_text [] h = absurd (let z : ⊥ = omega arith in z)
some_text (x ∷ text) h = refl

pub jot_long : (j : Jot) → (2 ≤ length (jot_text j)) × (length (jot_text j) ≤ 4)
unfolding jot_text
jot_long (Between i j) = (omega arith, omega arith)
jot_long (Counted i j n) = (omega arith, omega arith)
jot_long (ToCell i c) = (omega arith, omega arith)
jot_long (ToHome i) = (omega arith, omega arith)
jot_long (FromCell c j) = (omega arith, omega arith)
jot_long (CellHome c) = (omega arith, omega arith)

-- no line of n moves has more than 5 n - 1 signs, and none but the empty one has none
pub line_long : (j : Jot) (js : List Jot) → (2 ≤ length (line_text (j ∷ js))) × (length (line_text (j ∷ js)) ≤ 4 + 5 * length js)
unfolding line_text
line_long j [] = jot_long j
line_long j (k ∷ js) =
    let l = jot_long j in
    let r = line_long k js in
    let e = length-append (jot_text j) (space ∷ line_text (k ∷ js)) in
    (omega arith, omega arith)

pub form_back : (js : List Jot) → AllWell js → line_in (line_text js) ≡ jots js
unfolding line_text line_in
form_back [] w = refl
form_back (j ∷ js) w = some_text (line_text (j ∷ js)) (let l = (line_long j js).0 in omega arith) ∙ form_from j js w 0

-- ---- a text in form is the text of its moves

-- the signs of the move that is being read
abbrev so_far : Due → List ℕ
so_far Source = []
so_far (OfColumn i) = column_sign i ∷ []
so_far (OfCell c) = cell_sign c ∷ []
so_far (Pair i j) = column_sign i ∷ column_sign j ∷ []
so_far (Digit i j) = column_sign i ∷ column_sign j ∷ count_sign ∷ []
so_far (Whole j) = jot_text j

-- what a step says of the sign
abbrev Says : Due → ℕ → Step → Type 0
Says d x (On e) = so_far e ≡ so_far d ++ (x ∷ [])
Says d x (Ends j) = (x ≡ space) × (so_far d ≡ jot_text j)
Says d x Wrong = Unit {0}

pub by_test : (P : Step → Type 0) (b : Bool) (s r : Step) → (b ≡ true → P s) → (b ≡ false → P r) → P (cond b s r)
by_test P true s r yes-then no-then = yes-then refl
by_test P false s r yes-then no-then = no-then refl

column_said_lem : (x : ℕ) → is_column x ≡ true → column_sign (x - 49) ≡ x
column_said_lem x e = let w = within_is 49 56 x e in omega arith

cell_said_lem : (x : ℕ) → is_cell_sign x ≡ true → cell_sign (x - 97) ≡ x
cell_said_lem x e = let w = within_is 97 100 x e in omega arith

digit_said_lem : (x : ℕ) → is_digit x ≡ true → digit_sign (digit_said x) ≡ x
unfolding digit_sign digit_said
digit_said_lem x e = by_size (leb x 57) refl
  where
    or_other : (a b : Bool) → (a || b) ≡ true → (a ≡ true → ⊥) → b ≡ true
    or_other true b e d = absurd (d refl)
    or_other false b e d = e

    or_first : (a b : Bool) → (a || b) ≡ true → (b ≡ true → ⊥) → a ≡ true
    or_first true b e d = refl
    or_first false b e d = absurd (d e)

    by_size : (b : Bool) → leb x 57 ≡ b → cond (ltb (cond b (x - 48) (x - 87)) 10) (48 + cond b (x - 48) (x - 87)) (87 + cond b (x - 48) (x - 87)) ≡ x
    by_size true q =
        let l = leb-true x 57 q in
        let w = within_is 48 57 x (or_first (within 48 57 x) (within 97 102 x) e (λ f. let v = within_is 97 102 x f in let z : ⊥ = omega arith in z)) in
        rw (lt-ltb (x - 48) 10 (omega arith)) (omega arith)
    by_size false q =
        let l = leb-false x 57 q in
        let w = within_is 97 102 x (or_other (within 48 57 x) (within 97 102 x) e (λ f. let v = within_is 48 57 x f in let z : ⊥ = omega arith in z)) in
        rw (le-ltb (x - 87) 10 (omega arith)) (omega arith)

step_says : (d : Due) (x : ℕ) → Says d x (step_from d x)
unfolding step_from jot_text
step_says Source x =
    by_test (Says Source x) (is_column x) _ _ (λ e. ap (λ (k : ℕ). k ∷ []) (column_said_lem x e))
    (λ n. by_test (Says Source x) (is_cell_sign x) _ _ (λ e. ap (λ (k : ℕ). k ∷ []) (cell_said_lem x e)) (λ m. tt))
step_says (OfColumn i) x =
    by_test (Says (OfColumn i) x) (is_column x) _ _ (λ e. ap (λ (k : ℕ). column_sign i ∷ k ∷ []) (column_said_lem x e))
    (λ n. by_test (Says (OfColumn i) x) (is_cell_sign x) _ _ (λ e. ap (λ (k : ℕ). column_sign i ∷ k ∷ []) (cell_said_lem x e))
    (λ m. by_test (Says (OfColumn i) x) (eqb x home_sign) _ _ (λ e. ap (λ (k : ℕ). column_sign i ∷ k ∷ []) (sym (eqb-true x home_sign e))) (λ l. tt)))
step_says (OfCell c) x =
    by_test (Says (OfCell c) x) (is_column x) _ _ (λ e. ap (λ (k : ℕ). cell_sign c ∷ k ∷ []) (column_said_lem x e))
    (λ n. by_test (Says (OfCell c) x) (eqb x home_sign) _ _ (λ e. ap (λ (k : ℕ). cell_sign c ∷ k ∷ []) (sym (eqb-true x home_sign e))) (λ l. tt))
step_says (Pair i j) x =
    by_test (Says (Pair i j) x) (eqb x space) _ _ (λ e. (eqb-true x space e, refl))
    (λ n. by_test (Says (Pair i j) x) (eqb x count_sign) _ _ (λ e. ap (λ (k : ℕ). column_sign i ∷ column_sign j ∷ k ∷ []) (sym (eqb-true x count_sign e))) (λ l. tt))
step_says (Digit i j) x =
    by_test (Says (Digit i j) x) (is_digit x) _ _ (λ e. ap (λ (k : ℕ). column_sign i ∷ column_sign j ∷ count_sign ∷ k ∷ []) (digit_said_lem x e)) (λ n. tt)
step_says (Whole j) x = by_test (Says (Whole j) x) (eqb x space) _ _ (λ e. (eqb-true x space e, refl)) (λ n. tt)

-- what is read has a move in it
abbrev Moves : Reading → Type 0
Moves (jots []) = ⊥
Moves (jots (j ∷ js)) = Unit {0}
Moves (wrong p) = Unit {0}

also_some : (j : Jot) (r : Reading) → Moves (also j r)
also_some j (jots js) = tt
also_some j (wrong p) = tt

end_some : (d : Due) (at : ℕ) → Moves (ending d at)
end_some Source at = tt
end_some (OfColumn i) at = tt
end_some (OfCell c) at = tt
end_some (Pair i j) at = tt
end_some (Digit i j) at = tt
end_some (Whole j) at = tt

read_some : (d : Due) (at : ℕ) (text : List ℕ) → Moves (read_from d at text)
unfolding read_from
read_some d at [] = end_some d at
read_some d at (x ∷ text) = by_step (step_from d x) (λ e. read_some e (suc at) text)
  where
    by_step : (s : Step) → ((e : Due) → Moves (read_from e (suc at) text)) → Moves (onward s at (λ e. read_from e (suc at) text))
    by_step (On e) h = h e
    by_step (Ends j) h = also_some j (read_from Source (suc at) text)
    by_step Wrong h = tt

-- a reading of a text that began with those signs
abbrev Texts : Reading → List ℕ → Type 0
Texts (jots js) text = line_text js ≡ text
Texts (wrong p) text = Unit {0}

-- a move before what was read, if that has a move in it
also-text : (j : Jot) (r : Reading) (text : List ℕ) → Moves r → Texts r text → Texts (also j r) (jot_text j ++ (space ∷ text))
unfolding line_text
also-text j (jots []) text m e = absurd m
also-text j (jots (k ∷ js)) text m e = ap (λ (l : List ℕ). jot_text j ++ (space ∷ l)) e
also-text j (wrong p) text m e = tt

end_text : (d : Due) (at : ℕ) → Texts (ending d at) (so_far d ++ [])
unfolding line_text jot_text
end_text Source at = tt
end_text (OfColumn i) at = tt
end_text (OfCell c) at = tt
end_text (Pair i j) at = refl
end_text (Digit i j) at = tt
end_text (Whole j) at = sym (append-nil (jot_text j))

read_text_lem : (d : Due) (at : ℕ) (text : List ℕ) → Texts (read_from d at text) (so_far d ++ text)
unfolding read_from
read_text_lem d at [] = end_text d at
read_text_lem d at (x ∷ text) = by_step (step_from d x) (step_says d x) (λ e. read_text_lem e (suc at) text)
  where
    by_step : (s : Step) → Says d x s → ((e : Due) → Texts (read_from e (suc at) text) (so_far e ++ text))
        → Texts (onward s at (λ e. read_from e (suc at) text)) (so_far d ++ (x ∷ text))
    by_step (On e) w h =
        subst (Texts (read_from e (suc at) text)) (ap (λ (l : List ℕ). l ++ text) w ∙ append_assoc (so_far d) (x ∷ []) text) (h e)
    by_step (Ends j) w h =
        subst (Texts (also j (read_from Source (suc at) text))) (ap₂ (λ (l : List ℕ) (y : ℕ). l ++ (y ∷ text)) (sym w.1) (sym w.0))
        (also-text j (read_from Source (suc at) text) text (read_some Source (suc at) text) (h Source))
    by_step Wrong w h = tt

-- a text in form is the text of the moves read
line-text : (text : List ℕ) → Texts (line_in text) text
unfolding line_in line_text
line-text [] = refl
line-text (x ∷ text) = read_text_lem Source 0 (x ∷ text)

pub form_forth : (text : List ℕ) {js : List Jot} → line_in text ≡ jots js → line_text js ≡ text
form_forth text e = subst (λ (r : Reading). Texts r text) e (line-text text)
