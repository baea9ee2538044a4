-- What a chain over a range of numbers gives, in this repository's words: a test of each number, and how many pass one.
use mathlib.Core.Path.{◌≡◌, refl, sym, ap, ◌∙◌, subst}
use mathlib.Core.Bool.{Bool, true, false, cond}
use mathlib.Core.List.{List, [], ◌∷◌}
use Prim.Native.Nat.{ℕ, ◌+◌, ◌-◌, ◌<◌, ◌≤◌}
use native.Mathlib.Omega.{arith}
use lib.ListN.{length, get_or}
use denote.Ref.{Bor}
use denote.Param.Members.{Mut, Called}
use Rattle.std.specs.declared.option.Option.{Option}
use Rattle.std.specs.declared.option.Option.TheVariants.{None, Some}
use Rattle.std.specs.declared.ops.Range.{Range}
use Rattle.std.specs.declared.ops.RangeInclusive.{RangeInclusive}
use Rattle.std.specs.Bool.{IsTrue, MatchBool}
use Rattle.std.specs.Option.{option_map, IfSome, IsSomeAnd}
use Rattle.std.specs.Fn.{CalledAt}
use Rattle.std.specs.List.{sum_by}
use Rattle.std.specs.Range.{range_inclusive_start, range_inclusive_end, range_inclusive_exhausted}
use Rattle.std.specs.Iterator.Runs.{Run, ItemsCountUp, AllItemsGive, AnyItemGives, IsFilterRun}
use Rattle.std.proofs.iter.Yields.{nat_range_steps}
use Rattle.std.proofs.iter.runs.Sources.{nat_range_inclusive_steps, range_runs, inclusive_listed}
use Rattle.std.proofs.lemmas.List.Sums.{sum_by-cons}
use Rattle.base.specs.Words.{every, sum}
use Rattle.base.proofs.Words.{every_by, every_fails}
use Rattle.base.proofs.Sums.{sum_first, sum_same}

plain : (o : Option ℕ) (x : ℕ) → option_map (λ y. y) o ≡ Some x → o ≡ Some x
plain None x e = e
plain (Some y) x e = e

same_number : (x y : ℕ) → Some x ≡ Some y → x ≡ y
same_number x y e = cc

sum_by-sum : (f : ℕ → ℕ) (s : List ℕ) → sum_by f s ≡ sum (length s) (λ k. f (get_or s k 0))
unfolding sum
sum_by-sum f [] = refl
sum_by-sum f (x ∷ s) =
    sum_by-cons f x s ∙ ap (λ (m : ℕ). f x + m) (sum_by-sum f s) ∙ sym (sum_first (λ k. f (get_or (x ∷ s) k 0)) (length s))

-- a run over the n numbers from a on, of which number k is `at k`
pub record Counts {S : Type 0} {steps : S → Option ℕ → S → Type 0} (run : Run steps) (n : ℕ) (at : ℕ → ℕ) : Type 0 where
  pub all : run.whole ≡ true → run.len ≡ n
  pub most : run.len ≤ n
  pub item : (k : ℕ) → k < run.len → run.at k ≡ Some (at k)

counted : {S : Type 0} {steps : S → Option ℕ → S → Type 0} {run : Run steps} (a b n : ℕ) (at : ℕ → ℕ) → b - a ≡ n → ((k : ℕ) → a + k ≡ at k)
    → ItemsCountUp run a b → Counts run n at
counted {run = run} a b n at l s up =
    record {
      all = λ w. up.1 w ∙ l;
      most = let m = up.0 in omega arith;
      item = λ k m. plain (run.at k) (at k) (up.3 k m ∙ ap Some (s k));
    }

module _ (a b n : ℕ) (at : ℕ → ℕ) (long : b - a ≡ n) (shift : (k : ℕ) → a + k ≡ at k) where
  -- over `a..b`
  pub over_range : {s : Range ℕ} → s ≡ record { start = a; end = b } → (p : Run nat_range_steps) → p.from ≡ s → Counts p n at
  over_range e p f = counted a b n at long shift (subst (λ (r : Range ℕ). ItemsCountUp p r.start r.end) (f ∙ e) (range_runs p p.seen))

  -- over `a..=c`, where b is one more than c
  pub over_inclusive : {s : RangeInclusive ℕ} → range_inclusive_start s ≡ a → range_inclusive_end s + 1 ≡ b → range_inclusive_exhausted s ≡ false
      → (p : Run nat_range_inclusive_steps) → p.from ≡ s → Counts p n at
  over_inclusive d e x p f =
      let l = inclusive_listed p p.seen in
      counted a b n at long shift
      (subst (λ (y : ℕ). ItemsCountUp p y b) (l.2 ∙ ap range_inclusive_start f ∙ d)
      (subst (λ (y : ℕ). ItemsCountUp p l.0 y) (l.3 ∙ ap (λ (r : RangeInclusive ℕ). range_inclusive_end r + 1) f ∙ e)
      (l.4 (ap range_inclusive_exhausted f ∙ x)).0))

module _ {S : Type 0} {steps : S → Option ℕ → S → Type 0} {run : Run steps} {n : ℕ} {at : ℕ → ℕ} (c : Counts run n at) where
  numbered : (k : ℕ) → k < run.len → get_or run.items k 0 ≡ at k
  numbered k l = same_number (get_or run.items k 0) (at k) (sym (run.reads k 0 l) ∙ ap (option_map (λ y. y)) (c.item k l))

  summed : (f : ℕ → ℕ) → run.whole ≡ true → sum_by f run.items ≡ sum n (λ k. f (at k))
  summed f w =
      sum_by-sum f run.items ∙ ap (λ (m : ℕ). sum m (λ k. f (get_or run.items k 0))) (sym run.long ∙ c.all w)
      ∙ sum_same (λ k. f (get_or run.items k 0)) (λ k. f (at k)) n (λ k h. ap f (numbered k (let e = c.all w in omega arith)))

  -- ---- what a chain answers, where the closure leaves itself as it was and tests p

  module _ {F : Type 0} (f : F) (p : ℕ → Bool) where
    module _ (g : Mut F (ℕ × Unit {0}) Bool) (calls : (x : ℕ) (t : Bool) (q : F) → Called g f (x, tt) t q → (q ≡ f) × (t ≡ p x)) where
      holds : (o : Option ℕ) (x : ℕ) (t : Bool) → o ≡ Some x → IsSomeAnd o (λ y. Called g f (y, tt) t f) → p x ≡ t
      holds o x t e h = sym (calls x t f (subst (λ (z : Option ℕ). IsSomeAnd z (λ y. Called g f (y, tt) t f)) e h)).1

      pub all_tested : (r : Bool) → MatchBool r (IsTrue run.whole × AllItemsGive run g f true) (AnyItemGives run g f false) → r ≡ every n (λ k. p (at k))
      all_tested true h =
          sym (every_by (λ k. p (at k)) n
          (λ k l. let m : k < run.len = let e = c.all h.0 in omega arith in
          holds (run.at k) (at k) true (c.item k m)
          (subst (λ (z : Option ℕ). IsSomeAnd z (λ y. Called g f (y, tt) true f)) (sym (c.item k m))
          (subst (λ (z : Option ℕ). IfSome z (λ y. Called g f (y, tt) true f)) (c.item k m) (h.1 (λ x t q d. (calls x.0 t q d).0) k)))))
      all_tested false h =
          let u = h (λ x t q d. (calls x.0 t q d).0) in
          sym (every_fails (λ k. p (at k)) n u.0 (let e = c.most in let l = u.1 in omega arith) (holds (run.at u.0) (at u.0) false (c.item u.0 u.1) u.2))

    module _ (g : Mut F (Bor ℕ × Unit {0}) Bool) (calls : (x : ℕ) (t : Bool) (q : F) → CalledAt g f x t q → (q ≡ f) × (t ≡ p x)) where
      pub passing : {T : Type 0} {after : T → Option ℕ → T → Type 0} (some : Run after) → IsFilterRun some run g f → some.whole ≡ true
          → some.len ≡ sum n (λ k. cond (p (at k)) 1 0)
      passing some h w =
          h.5 (λ n x. n + cond (p x) 1 0) (λ x t q n d. let z = calls x t q d in (z.0, ap (λ (y : Bool). n + cond y 1 0) (sym z.1)))
          ∙ summed (λ x. cond (p x) 1 0) (h.0 ∙ w)
