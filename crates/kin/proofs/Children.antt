-- Held places and their children, when counts and parents change.
use mathlib.Core.Path.{◌≡◌, refl, sym, ap, ◌∙◌}
use mathlib.Core.Bool.{Bool, true, false, cond, ◌&&◌}
use Prim.Native.Nat.{ℕ, ◌+◌, ◌<◌, ◌≤◌}
use native.Mathlib.Omega.{arith}
use lib.Dec.{eqb, ltb}
use borrow.Author.Tests.{lt-ltb, le-ltb, ltb-true, eq-eqb, eqb-true}
use Rattle.base.proofs.Words.{not_so, first, second}
use Rattle.base.proofs.Sums.{sum_same, sum_changed, sum_part, sum_ones, sum_most}
use Rattle.kin.specs.Counted.{is_held, is_child, children, held}

-- ---- one place

pub held_is_so : (refs : ℕ → ℕ) (i : ℕ) → 0 < refs i → is_held refs i ≡ true
unfolding is_held
held_is_so refs i h = lt-ltb 0 (refs i) h

pub held_so : (refs : ℕ → ℕ) (i : ℕ) → is_held refs i ≡ true → 0 < refs i
unfolding is_held
held_so refs i e = ltb-true 0 (refs i) e

pub free_so : (refs : ℕ → ℕ) (i : ℕ) → refs i ≡ 0 → is_held refs i ≡ false
unfolding is_held
free_so refs i e = le-ltb 0 (refs i) (omega arith)

pub held_both : (f g : ℕ → ℕ) (i : ℕ) → 0 < f i → 0 < g i → is_held g i ≡ is_held f i
held_both f g i h k = held_is_so g i k ∙ sym (held_is_so f i h)

pub held_as : (f g : ℕ → ℕ) (i : ℕ) → g i ≡ f i → is_held g i ≡ is_held f i
unfolding is_held
held_as f g i e = ap (λ (x : ℕ). ltb 0 x) e

child_is : (parent refs : ℕ → ℕ) (k i : ℕ) → 0 < refs i → 0 < i → is_child parent refs k i ≡ eqb k (parent i)
unfolding is_child
child_is parent refs k i h z = rw (held_is_so refs i h, lt-ltb 0 i z)

pub child_free : (parent refs : ℕ → ℕ) (k i : ℕ) → refs i ≡ 0 → is_child parent refs k i ≡ false
unfolding is_child
child_free parent refs k i e = rw (free_so refs i e)

pub child_of_lem : (parent refs : ℕ → ℕ) (k i : ℕ) → is_child parent refs k i ≡ true → (0 < i) × (0 < refs i) × (k ≡ parent i)
unfolding is_child
child_of_lem parent refs k i e =
    let t = second (is_held refs i) (ltb 0 i && eqb k (parent i)) e in (
      ltb-true 0 i (first (ltb 0 i) (eqb k (parent i)) t),
      held_so refs i (first (is_held refs i) (ltb 0 i && eqb k (parent i)) e),
      eqb-true k (parent i) (second (ltb 0 i) (eqb k (parent i)) t),
    )

pub child_elsewhere : (parent refs : ℕ → ℕ) (k i : ℕ) → (0 < i → 0 < refs i → k ≡ parent i → ⊥) → is_child parent refs k i ≡ false
child_elsewhere parent refs k i d = not_so (is_child parent refs k i) (λ e. let c = child_of_lem parent refs k i e in d c.0 c.1 c.2)

child_same : (parent f P g : ℕ → ℕ) (k i : ℕ) → P i ≡ parent i → is_held g i ≡ is_held f i → is_child P g k i ≡ is_child parent f k i
unfolding is_child
child_same parent f P g k i e h = rw (h, e)

-- ---- all of them

pub children_same : (n : ℕ) (parent f P g : ℕ → ℕ) (k : ℕ) → ((i : ℕ) → i < n → P i ≡ parent i) → ((i : ℕ) → i < n → is_held g i ≡ is_held f i)
    → children n P g k ≡ children n parent f k
unfolding children
children_same n parent f P g k e h =
    sum_same (λ i. cond (is_child P g k i) 1 0) (λ i. cond (is_child parent f k i) 1 0) n
    (λ i l. ap (λ (b : Bool). cond b 1 0) (child_same parent f P g k i (e i l) (h i l)))

-- place i was free and is held now, or the other way round: its parent has a child more
pub children_more : (n : ℕ) (parent f P g : ℕ → ℕ) (i k : ℕ) → i < n → 0 < i → f i ≡ 0 → 0 < g i
    → ((j : ℕ) → j < n → (j ≡ i → ⊥) → P j ≡ parent j) → ((j : ℕ) → j < n → (j ≡ i → ⊥) → is_held g j ≡ is_held f j)
    → children n P g k ≡ children n parent f k + cond (eqb k (P i)) 1 0
unfolding children
children_more n parent f P g i k l z e h p q =
    let new : ℕ → ℕ = λ j. cond (is_child P g k j) 1 0 in
    let old : ℕ → ℕ = λ j. cond (is_child parent f k j) 1 0 in
    let s = sum_changed new old n i l (λ j m d. ap (λ (b : Bool). cond b 1 0) (child_same parent f P g k j (p j m d) (q j m d))) in
    let none : ◌≡◌ {A = ℕ} (old i) 0 = ap (λ (b : Bool). cond b 1 0) (child_free parent f k i e) in
    let own : ◌≡◌ {A = ℕ} (new i) (cond (eqb k (P i)) 1 0) = ap (λ (b : Bool). cond b 1 0) (child_is P g k i h z) in
    omega arith

-- a held place is a child of its parent
pub child_counts : (n : ℕ) (parent refs : ℕ → ℕ) (i : ℕ) → 0 < i → i < n → 0 < refs i → 0 < children n parent refs (parent i)
unfolding children
child_counts n parent refs i z l h =
    let s = sum_part (λ j. cond (is_child parent refs (parent i) j) 1 0) n i l in
    let one : ◌≡◌ {A = ℕ} (cond (is_child parent refs (parent i) i) 1 0) 1 =
    ap (λ (b : Bool). cond b 1 0) (child_is parent refs (parent i) i h z ∙ eq-eqb (parent i) (parent i) refl) in
    omega arith

-- ---- how many are held

pub held_most : (n : ℕ) (refs : ℕ → ℕ) → held n refs ≤ n
unfolding held
held_most n refs = sum_ones (λ i. cond (is_held refs i) 1 0) n (λ i l. at_most_lem (is_held refs i))
  where
    at_most_lem : (b : Bool) → cond b 1 0 ≤ 1
    at_most_lem true = omega arith
    at_most_lem false = omega arith

pub held_some : (n : ℕ) (refs : ℕ → ℕ) (i : ℕ) → i < n → 0 < refs i → 0 < held n refs
unfolding held
held_some n refs i l h =
    let s = sum_part (λ j. cond (is_held refs j) 1 0) n i l in
    let one : ◌≡◌ {A = ℕ} (cond (is_held refs i) 1 0) 1 = ap (λ (b : Bool). cond b 1 0) (held_is_so refs i h) in
    omega arith

pub held_stays : (n : ℕ) (f g : ℕ → ℕ) → ((i : ℕ) → i < n → is_held g i ≡ is_held f i) → held n g ≡ held n f
unfolding held
held_stays n f g h =
    sum_same (λ i. cond (is_held g i) 1 0) (λ i. cond (is_held f i) 1 0) n (λ i l. ap (λ (b : Bool). cond b 1 0) (h i l))

pub held_more : (n : ℕ) (f g : ℕ → ℕ) (i : ℕ) → i < n → f i ≡ 0 → 0 < g i → ((j : ℕ) → j < n → (j ≡ i → ⊥) → is_held g j ≡ is_held f j)
    → held n g ≡ held n f + 1
unfolding held
held_more n f g i l e h q =
    let new : ℕ → ℕ = λ j. cond (is_held g j) 1 0 in
    let old : ℕ → ℕ = λ j. cond (is_held f j) 1 0 in
    let s = sum_changed new old n i l (λ j m d. ap (λ (b : Bool). cond b 1 0) (q j m d)) in
    let none : ◌≡◌ {A = ℕ} (old i) 0 = ap (λ (b : Bool). cond b 1 0) (free_so f i e) in
    let one : ◌≡◌ {A = ℕ} (new i) 1 = ap (λ (b : Bool). cond b 1 0) (held_is_so g i h) in
    omega arith

-- children are held
pub children_most : (n : ℕ) (parent refs : ℕ → ℕ) (k : ℕ) → children n parent refs k ≤ held n refs
unfolding children held is_child
children_most n parent refs k =
    sum_most (λ i. cond (is_held refs i && (ltb 0 i && eqb k (parent i))) 1 0) (λ i. cond (is_held refs i) 1 0) n
    (λ i l. one_of_both (is_held refs i) (ltb 0 i && eqb k (parent i)))
  where
    one_of_both : (a b : Bool) → cond (a && b) 1 0 ≤ cond a 1 0
    one_of_both true true = omega arith
    one_of_both true false = omega arith
    one_of_both false b = omega arith
