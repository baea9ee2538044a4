-- Parents below n, and each cheaper than its child: that stays so when places are marked, freed and taken. And one place more.
use mathlib.Core.Path.{◌≡◌, refl, sym, ap, ◌∙◌, subst}
use mathlib.Core.Bool.{cond}
use mathlib.Core.List.{List, ◌∷◌}
use Prim.Native.Nat.{ℕ, ◌+◌, ◌<◌}
use native.Mathlib.Omega.{arith}
use native.Mathlib.Decide.{ℕ_discrete}
use lib.Dec.{eqb}
use borrow.Author.Tests.{eq-eqb, ne_eqb}
use Rattle.base.specs.Words.{occurs}
use Rattle.base.proofs.Sums.{sum-zero, sum_next}
use Rattle.kin.specs.Counted.{is_held, is_child, children, held, Counted, Rooted}
use Rattle.kin.proofs.Children.{children_same, child_elsewhere, child_free, held_as, held_stays, free_so}
use Rattle.kin.proofs.Marks.{But, Taken, parent_held, taken, held_taken}

-- no place is held that was not
pub rooted_fewer : {n : ℕ} {parent cost f : ℕ → ℕ} (P C g : ℕ → ℕ) → Rooted n parent cost f → ((k : ℕ) → k < n → P k ≡ parent k)
    → ((k : ℕ) → k < n → C k ≡ cost k) → ((k : ℕ) → k < n → 0 < g k → 0 < f k) → Rooted n P C g
rooted_fewer {n} {parent} {cost} {f} P C g r p c h = record {
  inside = λ i z l m. let q = r.inside i z l (h i l m) in omega (arith, p i l);
  lower = λ i z l m.
      let q = r.inside i z l (h i l m) in
      let w = r.lower i z l (h i l m) in
      omega (arith, ap C (p i l), c (parent i) q, c i l);
}

-- place i was free: nobody's parent, so that its cost may change
pub rooted_taken : {n i p : ℕ} {parent cost f P C g : ℕ → ℕ} {marks : List ℕ} → Taken n i p parent f P g → Rooted n parent cost f
    → Counted n parent f marks → f i ≡ 0 → p < n → 0 < f p → But n i cost C → cost p < C i → Rooted n P C g
rooted_taken {n} {i} {p} {parent} {cost} {f} {P} {C} {g} t r c e l h b lower = record {
  inside = λ j z m q. in_by j z m q (ℕ_discrete j i);
  lower = λ j z m q. low_by j z m q (ℕ_discrete j i);
}
  where
    was_held : (j : ℕ) → j < n → 0 < g j → (j ≡ i → ⊥) → 0 < f j
    was_held j m q d = parent_or_not (ℕ_discrete j p)
      where
        parent_or_not : Dec (j ≡ p) → 0 < f j
        parent_or_not (yes s) = omega (arith, ap f s)
        parent_or_not (no s) = omega (arith, t.same j m d s)

    not_free : (j : ℕ) → 0 < f j → j ≡ i → ⊥
    not_free j q s = omega (arith, ap f s)

    in_by : (j : ℕ) → 0 < j → j < n → 0 < g j → Dec (j ≡ i) → P j < n
    in_by j z m q (yes s) = omega (arith, ap P s, t.own)
    in_by j z m q (no d) = omega (arith, t.parents.same j m d, r.inside j z m (was_held j m q d))

    low_by : (j : ℕ) → 0 < j → j < n → 0 < g j → Dec (j ≡ i) → C (P j) < C j
    low_by j z m q (yes s) =
        let own : P j ≡ p = ap P s ∙ t.own in
        omega (arith, ap C own, ap C s, b.same p l (not_free p h))
    low_by j z m q (no d) =
        let o = was_held j m q d in
        let k = r.inside j z m o in
        let u = parent_held c j z m o k in
        omega (arith, ap C (t.parents.same j m d), b.same (parent j) k (not_free (parent j) u), b.same j m d, r.lower j z m o)

-- ---- one place more

-- the counts with place n free
free_at : ℕ → (ℕ → ℕ) → ℕ → ℕ
free_at n f k = cond (eqb k n) 0 (f k)

free_there : (n : ℕ) (f : ℕ → ℕ) → free_at n f n ≡ 0
unfolding free_at
free_there n f = rw (eq-eqb n n refl)

free_else : (n : ℕ) (f : ℕ → ℕ) (k : ℕ) → (k ≡ n → ⊥) → free_at n f k ≡ f k
unfolding free_at
free_else n f k d = rw (ne_eqb k n d)

module _ {n : ℕ} {parent cost f : ℕ → ℕ} (r : Rooted n parent cost f) where
  below : (k : ℕ) → k < n → free_at n f k ≡ f k
  below k l = free_else n f k (λ q. let w : ⊥ = omega arith in w)

  wider_children : (k : ℕ) → children (n + 1) parent (free_at n f) k ≡ children n parent f k
  unfolding children
  wider_children k =
      let last : ◌≡◌ {A = ℕ} (cond (is_child parent (free_at n f) k n) 1 0) 0 = rw (child_free parent (free_at n f) k n (free_there n f)) in
      let same = children_same n parent f parent (free_at n f) k (λ i l. refl) (λ i l. held_as f (free_at n f) i (below i l)) in
      omega (arith, sum_next (λ i. cond (is_child parent (free_at n f) k i) 1 0) n)

  no_child_of_n : children n parent f n ≡ 0
  unfolding children
  no_child_of_n =
      sum-zero (λ i. cond (is_child parent f n i) 1 0) n
      (λ i l. rw (child_elsewhere parent f n i (λ z h q. let w : ⊥ = omega (arith, r.inside i z l h) in w)))

  wider : {marks : List ℕ} → Counted n parent f marks → Counted (n + 1) parent (free_at n f) marks
  wider {marks} c = record { within = λ k m. c.within k (omega arith); count = λ k l. which k l (ℕ_discrete k n) }
    where
      which : (k : ℕ) → k < n + 1 → Dec (k ≡ n) → free_at n f k ≡ occurs k marks + children (n + 1) parent (free_at n f) k
      which k l (yes q) =
          subst (λ (x : ℕ). free_at n f x ≡ occurs x marks + children (n + 1) parent (free_at n f) x) (sym q)
          (omega (arith, free_there n f, c.within n (omega arith), wider_children n, no_child_of_n))
      which k l (no d) = let m : k < n = omega arith in omega (arith, below k m, c.count k m, wider_children k)

  wider_rooted : Rooted (n + 1) parent cost (free_at n f)
  wider_rooted = record {
    inside = λ i z l h. omega (arith, r.inside i z (held_below i l h) (was_held i l h));
    lower = λ i z l h. r.lower i z (held_below i l h) (was_held i l h);
  }
    where
      held_below : (i : ℕ) → i < n + 1 → 0 < free_at n f i → i < n
      held_below i l h = here_or_not (ℕ_discrete i n)
        where
          here_or_not : Dec (i ≡ n) → i < n
          here_or_not (yes q) = omega (arith, ap (free_at n f) q, free_there n f)
          here_or_not (no d) = omega arith

      was_held : (i : ℕ) → i < n + 1 → 0 < free_at n f i → 0 < f i
      was_held i l h = omega (arith, below i (held_below i l h))

  wider_held : held (n + 1) (free_at n f) ≡ held n f
  unfolding held
  wider_held =
      let last : ◌≡◌ {A = ℕ} (cond (is_held (free_at n f) n) 1 0) 0 = rw (free_so (free_at n f) n (free_there n f)) in
      let same = held_stays n f (free_at n f) (λ i l. held_as f (free_at n f) i (below i l)) in
      omega (arith, sum_next (λ i. cond (is_held (free_at n f) i) 1 0) n)

  module _ {p : ℕ} {P g : ℕ → ℕ} (t : Taken (n + 1) n p parent f P g) (l : p < n) (h : 0 < f p) where
    free_taken : Taken (n + 1) n p parent (free_at n f) P g
    free_taken = record {
      own = t.own;
      parents = t.parents;
      one = t.one;
      more = omega (arith, t.more, below p l);
      same = λ k m d e. t.same k m d e ∙ sym (free_else n f k d);
    }

    still : 0 < free_at n f p
    still = omega (arith, below p l)

    -- place n, which nobody had before, is taken
    pub taken_fresh : {marks : List ℕ} → Counted n parent f marks → Counted (n + 1) P g (n ∷ marks)
    taken_fresh c = taken free_taken (wider c) (omega arith) (omega arith) (free_there n f) still

    pub rooted_fresh : {C : ℕ → ℕ} {marks : List ℕ} → Counted n parent f marks → But (n + 1) n cost C → cost p < C n → Rooted (n + 1) P C g
    rooted_fresh c b lower = rooted_taken free_taken wider_rooted (wider c) (free_there n f) (omega arith) still b lower

    pub held-fresh : held (n + 1) g ≡ held n f + 1
    held-fresh = held_taken free_taken (omega arith) (free_there n f) still ∙ ap (λ (x : ℕ). x + 1) wider_held
