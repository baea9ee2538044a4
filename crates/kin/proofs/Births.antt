-- How many places are held is how many births are needed.
use mathlib.Core.Path.{◌≡◌, refl, sym, ap, ◌∙◌, subst}
use mathlib.Core.Bool.{Bool, true, false, cond, ◌&&◌}
use mathlib.Core.List.{List, [], ◌∷◌, ◌++◌}
use Prim.Native.Nat.{ℕ, ◌<◌}
use native.Mathlib.Omega.{arith}
use lib.Dec.{eqb, ltb}
use borrow.Author.Tests.{lt-ltb, ltb-true, eq-eqb, eqb-true}
use Rattle.base.specs.Words.{occurs, sum}
use Rattle.base.proofs.Words.{true_or_not, not_so, both, first, second, occurs_none}
use Rattle.base.proofs.Sums.{sum_same, sum-zero, sum_one, sum_swap}
use Rattle.kin.specs.Way.{ways, each}
use Rattle.kin.specs.Counted.{is_held, held, Counted, Rooted, Births}
use Rattle.kin.proofs.Children.{held_is_so, held_so}
use Rattle.kin.proofs.Needed.{occurs-first, occurs_later, here_later, on_ways, on_some_way}

-- f takes the places where p holds to the numbers where q holds, each to its own, and misses none
pub record Pairs (n m : ℕ) (p q : ℕ → Bool) (f : ℕ → ℕ) : Type 0 where
  pub to : (j : ℕ) → j < n → p j ≡ true → (f j < m) × (q (f j) ≡ true)
  pub from : (b : ℕ) → b < m → q b ≡ true → (j : ℕ) × (j < n) × (p j ≡ true) × (f j ≡ b)
  pub own : (i j : ℕ) → i < n → j < n → p i ≡ true → p j ≡ true → f i ≡ f j → i ≡ j

module _ {n m : ℕ} {p q : ℕ → Bool} {f : ℕ → ℕ} (d : Pairs n m p q f) where
  -- place j holds number b
  pair : ℕ → ℕ → ℕ
  pair j b = cond (p j && eqb (f j) b) 1 0

  none : (j b : ℕ) → (p j ≡ true → f j ≡ b → ⊥) → pair j b ≡ 0
  unfolding pair
  none j b never =
      rw (not_so (p j && eqb (f j) b) (λ e. never (first (p j) (eqb (f j) b) e) (eqb-true (f j) b (second (p j) (eqb (f j) b) e))))

  one : (j b : ℕ) → p j ≡ true → f j ≡ b → pair j b ≡ 1
  unfolding pair
  one j b h e = rw (both h (eq-eqb (f j) b e))

  -- a place where p holds has one number, any other none
  of_place : (j : ℕ) → j < n → sum m (λ b. pair j b) ≡ cond (p j) 1 0
  of_place j l = by_test (p j) refl
    where
      by_test : (t : Bool) → p j ≡ t → sum m (λ b. pair j b) ≡ cond t 1 0
      by_test true e =
          sum_one (λ b. pair j b) m (f j) (d.to j l e).0 (λ b k x. none j b (λ y z. x (sym z))) ∙ one j (f j) e refl
      by_test false e = sum-zero (λ b. pair j b) m (λ b k. none j b (λ y z. true_or_not (p j) y e))

  -- a number where q holds has one place, any other none
  of_number : (b : ℕ) → b < m → sum n (λ j. pair j b) ≡ cond (q b) 1 0
  of_number b l = by_test (q b) refl
    where
      by_test : (t : Bool) → q b ≡ t → sum n (λ j. pair j b) ≡ cond t 1 0
      by_test true e =
          let s = d.from b l e in
          sum_one (λ j. pair j b) n s.0 s.1
          (λ j k x. none j b (λ y z. x (d.own j s.0 k s.1 y s.2 (z ∙ sym s.3)))) ∙ one s.0 b s.2 s.3
      by_test false e =
          sum-zero (λ j. pair j b) n
          (λ j k. none j b (λ y z. true_or_not (q b) (subst (λ (x : ℕ). q x ≡ true) z (d.to j k y).1) e))

  pub as_many : sum n (λ j. cond (p j) 1 0) ≡ sum m (λ b. cond (q b) 1 0)
  as_many =
      sum_same (λ j. cond (p j) 1 0) (λ j. sum m (λ b. pair j b)) n (λ j l. sym (of_place j l)) ∙ sum_swap pair n m
      ∙ sum_same (λ b. sum n (λ j. pair j b)) (λ b. cond (q b) 1 0) m of_number

-- ---- what is said of each place of a list

each_of : (f : ℕ → ℕ) (l : List ℕ) (k : ℕ) → 0 < occurs k l → 0 < occurs (f k) (each f l)
unfolding each
each_of f [] k o = absurd (let w : ⊥ = omega (arith, occurs_none k) in w)
each_of f (i ∷ l) k o =
    here_later k i l o (λ e. subst (λ (x : ℕ). 0 < occurs x (f i ∷ each f l)) (sym (ap f e)) (occurs-first (f i) (each f l)))
    (λ h. occurs_later (f k) (f i) (each f l) (each_of f l k h))

of_each : (f : ℕ → ℕ) (l : List ℕ) (b : ℕ) → 0 < occurs b (each f l) → (k : ℕ) × (0 < occurs k l) × (f k ≡ b)
unfolding each
of_each f [] b o = absurd (let w : ⊥ = omega (arith, occurs_none b) in w)
of_each f (i ∷ l) b o =
    here_later b (f i) (each f l) o (λ e. (i, occurs-first i l, sym e))
    (λ h. let s = of_each f l b h in (s.0, occurs_later s.0 i l s.1, s.2))

pub each_append : (f : ℕ → ℕ) (s t : List ℕ) → each f (s ++ t) ≡ each f s ++ each f t
unfolding each
each_append f [] t = refl
each_append f (k ∷ s) t = ap (λ (l : List ℕ). f k ∷ l) (each_append f s t)

-- ---- births

-- as many places are held as there are births on the ways from what is marked
pub births_needed : {n born : ℕ} {parent cost refs birth : ℕ → ℕ} {marks : List ℕ} → Counted n parent refs marks → Rooted n parent cost refs
    → Births n born refs birth → held n refs ≡ sum born (λ b. cond (ltb 0 (occurs b (each birth (ways parent cost marks)))) 1 0)
unfolding held
births_needed {n} {born} {parent} {cost} {refs} {birth} {marks} c r u =
    as_many {n = n} {m = born} {p = is_held refs} {q = λ b. ltb 0 (occurs b (each birth (ways parent cost marks)))} {f = birth} (record {
      to = λ j l e. (
        u.below j l (held_so refs j e),
        lt-ltb 0 (occurs (birth j) (each birth (ways parent cost marks)))
            (each_of birth (ways parent cost marks) j (on_some_way r c (sum n cost) j l (held_so refs j e) (omega arith))),
      );
      from = λ b l e.
          let s = of_each birth (ways parent cost marks) b (ltb-true 0 (occurs b (each birth (ways parent cost marks))) e) in
          let o = on_ways r c s.0 s.1 in
          (s.0, o.0, held_is_so refs s.0 o.1, s.2);
      own = λ i j k l e g. u.own i j k l (held_so refs i e) (held_so refs j g);
    })
