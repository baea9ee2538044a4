-- The counts stay right: a place is marked once more, or once less, a freed place's mark goes on to its parent, a free place is
-- taken for a child.
use mathlib.Core.Path.{◌≡◌, refl, sym, ap, ◌∙◌}
use mathlib.Core.Bool.{Bool, true, false, cond}
use mathlib.Core.List.{List, [], ◌∷◌}
use Prim.Native.Nat.{ℕ, suc, ◌+◌, ◌<◌, ◌≤◌}
use native.Mathlib.Omega.{arith}
use native.Mathlib.Decide.{ℕ_discrete, dec_lt}
use lib.Dec.{eqb}
use lib.ListN.{length}
use borrow.Author.Tests.{eq-eqb, ne_eqb}
use Rattle.base.specs.Words.{occurs}
use Rattle.base.proofs.Words.{occurs_here, occurs_other}
use Rattle.kin.specs.Counted.{is_held, held, Counted}
use Rattle.kin.proofs.Children.{held_both, held_as, children_same, children_more, child_counts, held_stays, held_more, children_most}

-- below n, g is f but at place i
pub record But (n i : ℕ) (f g : ℕ → ℕ) : Type 0 where
  pub same : (k : ℕ) → k < n → (k ≡ i → ⊥) → g k ≡ f k

occurs_next : (k i : ℕ) (l : List ℕ) → occurs k (i ∷ l) ≡ cond (eqb k i) 1 0 + occurs k l
unfolding occurs
occurs_next k i l = refl

-- ---- what is marked is held, and so is a held place's parent

module _ {n : ℕ} {parent refs : ℕ → ℕ} {marks : List ℕ} (c : Counted n parent refs marks) where
  pub marked_in : (k : ℕ) → 0 < occurs k marks → k < n
  marked_in k h = by_order (dec_lt k n)
    where
      by_order : Dec (k < n) → k < n
      by_order (yes l) = l
      by_order (no l) = let e = c.within k (omega arith) in omega arith

  pub marked_held : (k : ℕ) → 0 < occurs k marks → 0 < refs k
  marked_held k h = let e = c.count k (marked_in k h) in omega arith

  pub parent_held : (i : ℕ) → 0 < i → i < n → 0 < refs i → parent i < n → 0 < refs (parent i)
  parent_held i z l h p = let e = c.count (parent i) p in let s = child_counts n parent refs i z l h in omega arith

occurs_most : (k : ℕ) (l : List ℕ) → occurs k l ≤ length l
unfolding occurs
occurs_most k [] = omega arith
occurs_most k (i ∷ l) = at_most_lem (eqb k i) (occurs_most k l)
  where
    at_most_lem : (b : Bool) → occurs k l ≤ length l → cond b 1 0 + occurs k l ≤ suc (length l)
    at_most_lem true h = omega arith
    at_most_lem false h = omega arith

-- so a count fits a word where marks and held places are few enough
pub count_most : {n : ℕ} {parent refs : ℕ → ℕ} {marks : List ℕ} → Counted n parent refs marks → (k : ℕ) → k < n
    → refs k ≤ length marks + held n refs
count_most {n} {parent} {refs} {marks} c k l = omega (arith, c.count k l, occurs_most k marks, children_most n parent refs k)

pub first_in : {n : ℕ} {parent refs : ℕ → ℕ} {marks : List ℕ} (i : ℕ) → Counted n parent refs (i ∷ marks) → i < n
first_in {marks = marks} i c = marked_in c i (let o = occurs_here i i marks refl in omega arith)

-- ---- marks

-- held places stay so, and each count changes with the marks
recounted : {n : ℕ} {parent f : ℕ → ℕ} {old : List ℕ} (P g : ℕ → ℕ) (new : List ℕ) → Counted n parent f old
    → ((k : ℕ) → k < n → P k ≡ parent k) → ((k : ℕ) → k < n → is_held g k ≡ is_held f k)
    → ((k : ℕ) → n ≤ k → occurs k new ≡ 0) → ((k : ℕ) → k < n → g k + occurs k old ≡ f k + occurs k new) → Counted n P g new
recounted {n} {parent} {f} {old} P g new c p h w e = record {
  within = w;
  count = λ k l.
      let was = c.count k l in
      let now = e k l in
      let same = children_same n parent f P g k p h in
      omega arith;
}

-- only what lies below n counts, and the order of the marks does not
pub counted_same : {n : ℕ} {parent f : ℕ → ℕ} {old : List ℕ} (P g : ℕ → ℕ) (new : List ℕ) → Counted n parent f old
    → ((k : ℕ) → k < n → P k ≡ parent k) → ((k : ℕ) → k < n → g k ≡ f k) → ((k : ℕ) → occurs k new ≡ occurs k old) → Counted n P g new
counted_same {f = f} P g new c p e o =
    recounted P g new c p (λ k l. held_as f g k (e k l)) (λ k m. o k ∙ c.within k m) (λ k l. omega (arith, e k l, o k))

module _ {n i : ℕ} {f g : ℕ → ℕ} (b : But n i f g) where
  -- a place that is held before and after
  pub stays_held : 0 < f i → 0 < g i → (k : ℕ) → k < n → is_held g k ≡ is_held f k
  stays_held h m k l = here_or_not (ℕ_discrete k i)
    where
      here_or_not : Dec (k ≡ i) → is_held g k ≡ is_held f k
      here_or_not (yes e) = held_both f g k (omega (arith, ap f e)) (omega (arith, ap g e))
      here_or_not (no d) = held_as f g k (b.same k l d)

  -- each count is what it was, and at place i one more
  one_more_lem : g i ≡ f i + 1 → (k : ℕ) → k < n → g k ≡ f k + cond (eqb k i) 1 0
  one_more_lem e k l = here_or_not (ℕ_discrete k i)
    where
      here_or_not : Dec (k ≡ i) → g k ≡ f k + cond (eqb k i) 1 0
      here_or_not (yes q) = rw (eq-eqb k i q) (omega (arith, ap f q, ap g q))
      here_or_not (no d) = rw (ne_eqb k i d) (omega (arith, b.same k l d))

but_back : {n i : ℕ} {f g : ℕ → ℕ} → But n i f g → But n i g f
but_back b = record { same = λ k l d. sym (b.same k l d) }

module _ {n i : ℕ} {parent f g : ℕ → ℕ} {marks : List ℕ} (b : But n i f g) where
  pub mark_more : Counted n parent f marks → i < n → 0 < f i → g i ≡ f i + 1 → Counted n parent g (i ∷ marks)
  mark_more c l h e =
      recounted parent g (i ∷ marks) c (λ k m. refl) (stays_held b h (omega arith))
      (λ k m. omega (arith, occurs_other k i marks (λ q. let w : ⊥ = omega arith in w), c.within k m))
      (λ k m. omega (arith, occurs_next k i marks, one_more_lem b e k m))

  pub mark_less : Counted n parent f (i ∷ marks) → 1 < f i → g i + 1 ≡ f i → Counted n parent g marks
  mark_less c h e =
      recounted parent g marks c (λ k m. refl) (stays_held b (omega arith) (omega arith))
      (λ k m. omega (arith, occurs_next k i marks, c.within k m))
      (λ k m. omega (arith, occurs_next k i marks, one_more_lem (but_back b) (sym e) k m))

  -- the turn of giving back: place i had this mark alone, so that it is freed, and its parent is marked in its stead
  pub let_go : Counted n parent f (i ∷ marks) → 0 < i → parent i < n → f i ≡ 1 → g i ≡ 0 → Counted n parent g (parent i ∷ marks)
  let_go c z p o e = record {
    within = λ k m.
        omega (arith, occurs_other k (parent i) marks (λ q. let w : ⊥ = omega arith in w), occurs_next k i marks, c.within k m);
    count = λ k l.
        let was = c.count k l in
        let one = one_more_lem (but_back b) (omega arith) k l in
        let fewer = children_more n parent g parent f i k (first_in i c) z e (omega arith) (λ j m d. refl)
        (λ j m d. held_as g f j (sym (b.same j m d))) in
        omega (arith, occurs_next k i marks, occurs_next k (parent i) marks);
  }

-- ---- births

-- place i, whose words were another's or nobody's, is now a child of place p: it has the one mark of a node that waits, and p has a child more
pub record Taken (n i p : ℕ) (parent f P g : ℕ → ℕ) : Type 0 where
  pub own : P i ≡ p
  pub parents : But n i parent P
  pub one : g i ≡ 1
  pub more : g p ≡ f p + 1
  pub same : (k : ℕ) → k < n → (k ≡ i → ⊥) → (k ≡ p → ⊥) → g k ≡ f k

module _ {n i p : ℕ} {parent f P g : ℕ → ℕ} (t : Taken n i p parent f P g) where
  others_held : 0 < f p → (k : ℕ) → k < n → (k ≡ i → ⊥) → is_held g k ≡ is_held f k
  others_held h k l d = parent_or_not (ℕ_discrete k p)
    where
      parent_or_not : Dec (k ≡ p) → is_held g k ≡ is_held f k
      parent_or_not (yes q) = held_both f g k (omega (arith, ap f q)) (omega (arith, ap f q, ap g q, t.more))
      parent_or_not (no e) = held_as f g k (t.same k l d e)

  -- each count: one more at i and at its parent
  counts_taken : f i ≡ 0 → 0 < f p → (k : ℕ) → k < n → g k ≡ f k + cond (eqb k i) 1 0 + cond (eqb k p) 1 0
  counts_taken e h k l = which (ℕ_discrete k i) (ℕ_discrete k p)
    where
      which : Dec (k ≡ i) → Dec (k ≡ p) → g k ≡ f k + cond (eqb k i) 1 0 + cond (eqb k p) 1 0
      which (yes q) (yes r) = absurd (let w : ⊥ = omega (arith, ap f q, ap f r) in w)
      which (yes q) (no r) = rw (eq-eqb k i q, ne_eqb k p r) (omega (arith, ap f q, ap g q, t.one))
      which (no q) (yes r) = rw (ne_eqb k i q, eq-eqb k p r) (omega (arith, ap f r, ap g r, t.more))
      which (no q) (no r) = rw (ne_eqb k i q, ne_eqb k p r) (omega (arith, t.same k l q r))

  -- a free place is taken
  pub taken : {marks : List ℕ} → Counted n parent f marks → 0 < i → i < n → f i ≡ 0 → 0 < f p → Counted n P g (i ∷ marks)
  taken {marks} c z l e h = record {
    within = λ k m. omega (arith, occurs_other k i marks (λ q. let w : ⊥ = omega arith in w), c.within k m);
    count = λ k m.
        let was = c.count k m in
        let now = counts_taken e h k m in
        let more = children_more n parent f P g i k l z e (omega (arith, t.one)) t.parents.same (others_held h) in
        let own : ◌≡◌ {A = ℕ} (cond (eqb k (P i)) 1 0) (cond (eqb k p) 1 0) = ap (λ (x : ℕ). cond (eqb k x) 1 0) t.own in
        omega (arith, occurs_next k i marks);
  }

  pub held_taken : i < n → f i ≡ 0 → 0 < f p → held n g ≡ held n f + 1
  held_taken l e h = held_more n f g i l e (omega (arith, t.one)) (others_held h)

-- ---- how many are held

module _ {n i : ℕ} {f g : ℕ → ℕ} (b : But n i f g) where
  pub held_marked : 0 < f i → 0 < g i → held n g ≡ held n f
  held_marked h m = held_stays n f g (stays_held b h m)

  pub held_let_go : i < n → 0 < f i → g i ≡ 0 → held n f ≡ held n g + 1
  held_let_go l h e = held_more n g f i l e h (λ j m d. held_as g f j (sym (b.same j m d)))
