-- The root alone: it waits, and it is the best.
use mathlib.Core.Path.{◌≡◌, refl, subst}
use mathlib.Core.Bool.{cond}
use mathlib.Core.List.{List, [], ◌∷◌}
use Prim.Native.Nat.{ℕ, ◌+◌, ◌≤◌}
use native.Mathlib.Omega.{arith}
use lib.ListN.{length}
use Rattle.base.specs.Words.{occurs}
use Rattle.base.proofs.Words.{occurs_none, occurs_here, occurs_other}
use Rattle.base.proofs.Sums.{sum-zero}
use Rattle.kin.specs.Counted.{is_child, children, Counted}
use Rattle.kin.specs.Places.{parent_at, refs_at, Kin}
use Rattle.kin.proofs.Children.{child_elsewhere, held_most, held_some}

no_children : (parent refs : ℕ → ℕ) (k : ℕ) → children 1 parent refs k ≡ 0
unfolding children
no_children parent refs k =
    sum-zero (λ i. cond (is_child parent refs k i) 1 0) 1 (λ i l. rw (child_elsewhere parent refs k i (λ z h q. let w : ⊥ = omega arith in w)))

root_counted : (parent refs : ℕ → ℕ) → refs 0 ≡ 2 → Counted 1 parent refs (0 ∷ 0 ∷ [])
root_counted parent refs e = record {
  within = λ k l.
      let d : k ≡ 0 → ⊥ = λ q. let w : ⊥ = omega arith in w in
      omega (arith, occurs_other k 0 (0 ∷ []) d, occurs_other k 0 [] d, occurs_none k);
  count = λ k l.
      subst (λ (x : ℕ). refs x ≡ occurs x (0 ∷ 0 ∷ []) + children 1 parent refs x) (let q : 0 ≡ k = omega arith in q)
      (omega (arith, e, occurs_here 0 0 (0 ∷ []) refl, occurs_here 0 0 [] refl, occurs_none 0, no_children parent refs 0));
}

pub kin_start : (capacity : ℕ) (cost : ℕ → ℕ) (words slots : List ℕ) → 1 ≤ capacity → capacity ≤ 2147483647 → capacity ≤ length slots
    → 5 ≤ length words → refs_at words 0 ≡ 2 → Kin capacity 1 cost (0 ∷ 0 ∷ []) words slots 1
kin_start capacity cost words slots some small slotted long e = record {
  places = record {
    worded = omega arith;
    slotted = slotted;
    roomy = some;
    small = small;
    alive = omega (arith, held_most 1 (refs_at words), held_some 1 (refs_at words) 0 (omega arith) (omega arith));
    inside = λ k u v. absurd (let w : ⊥ = omega arith in w);
    free = λ k u v. absurd (let w : ⊥ = omega arith in w);
    once = λ j k u v x q. omega arith;
  };
  counted = root_counted (parent_at words) (refs_at words) e;
  rooted = record {
    inside = λ i z l h. absurd (let w : ⊥ = omega arith in w);
    lower = λ i z l h. absurd (let w : ⊥ = omega arith in w);
  };
}
