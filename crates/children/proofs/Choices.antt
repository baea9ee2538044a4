-- What is known of a child's board decides whether it is dropped.
use Rattle.std.specs.Prelude.{Some, None}
use mathlib.Core.Path.{◌≡◌, sym, ◌∙◌, subst}
use mathlib.Core.Bool.{true, false}
use mathlib.Core.List.{List}
use mathlib.Core.Logic.{◌⊎◌, inl, inr}
use Prim.Native.Nat.{ℕ, ◌<◌, ◌≤◌}
use native.Mathlib.Omega.{arith}
use borrow.Author.Tests.{le-leb, lt-leb}
use lib.ListN.{length}
use Rattle.costs.specs.Entries.{is_used, cost_at}
use Rattle.costs.specs.CostIn.{cost_in}
use Rattle.costs.specs.Table.{Table}
use Rattle.costs.specs.Promises.{Held, Vacant, Finds}
use Rattle.costs.specs.declared.Slot.{Slot}
use Rattle.costs.specs.declared.Slot.TheVariants.{At, Free, Full}
use Rattle.costs.proofs.Entries.{used_not, held-used}
use Rattle.costs.proofs.Slots.{table_none}
use Rattle.search.specs.Solve.{as_good}
use Rattle.memory.specs.View.{told}
use Rattle.memory.proofs.Bearing.{held_good, vacant_good}
use Rattle.children.specs.Inner.{Chooses}
use Rattle.children.specs.Inner.{Empty}

module _ {keys costs : List ℕ} {n k : ℕ} where
  -- a choice of one kind is none of the other
  dropped_only : {cost : ℕ} → as_good (told (cost_in keys costs n k)) cost ≡ true → Chooses keys costs n k cost None
  dropped_only e =
      record {
        dropped = λ q. e;
        passes = λ s q. let z : ◌≡◌ {A = ℕ} 0 1 = cc in absurd (let w : ⊥ = omega arith in w);
        spot = λ s q. let z : ◌≡◌ {A = ℕ} 0 1 = cc in absurd (let w : ⊥ = omega arith in w);
      }

  slot_only : {cost : ℕ} (i : ℕ) → as_good (told (cost_in keys costs n k)) cost ≡ false → Held keys costs n k i ⊎ Vacant keys costs n k i
      → Chooses keys costs n k cost (Some i)
  slot_only i e p =
      record {
        dropped = λ q. let z : ◌≡◌ {A = ℕ} 0 1 = cc in absurd (let w : ⊥ = omega arith in w);
        passes = λ s q. e;
        spot = λ s q. let same : i ≡ s = cc in subst (λ (j : ℕ). Held keys costs n k j ⊎ Vacant keys costs n k j) same p;
      }

  module _ {r : Slot} (f : Finds keys costs n k r) where
    module _ (i : ℕ) (q : r ≡ At i) where
      held : Held keys costs n k i
      held = f.held i q

      pub held-within : Table keys costs n → i < length costs
      held-within t = let w = held.place.within in let l = t.costed in omega arith

      pub held_is_used : is_used costs i ≡ true
      held_is_used = held-used keys costs i k held.here

      module _ (cost : ℕ) {known : ℕ} (e : known ≡ cost_at costs i) where
        pub drops : known ≤ cost → Chooses keys costs n k cost None
        drops h = dropped_only (held_good held cost ∙ le-leb (cost_at costs i) cost (omega arith))

        pub lowers : cost < known → Chooses keys costs n k cost (Some i)
        lowers h = slot_only i (held_good held cost ∙ lt-leb (cost_at costs i) cost (omega arith)) (inl held)

    pub enters : (cost i : ℕ) → r ≡ Free i → Chooses keys costs n k cost (Some i)
    enters cost i q =
        let v = f.vacant i q in
        slot_only i (vacant_good v cost) (inr v)

-- ---- a table with nothing in it

module _ {keys costs : List ℕ} {n : ℕ} (e : Empty keys costs n) where
  pub empty_table : Table keys costs n
  empty_table = table_none keys costs n e.zero e.some e.most e.keyed e.costed

  module _ {k : ℕ} {r : Slot} (f : Finds keys costs n k r) where
    never_there : (i : ℕ) → r ≡ At i → ⊥
    never_there i q =
        let h = f.held i q in
        let u : true ≡ false = sym (held-used keys costs i k h.here) ∙ used_not costs i (e.zero i h.place.within) in
        let z : ◌≡◌ {A = ℕ} 0 1 = cc in
        let w : ⊥ = omega arith in w

    pub only_free : {i : ℕ} → (r ≡ At i) ⊎ (r ≡ Free i) → Vacant keys costs n k i
    only_free {i} (inl q) = absurd (never_there i q)
    only_free {i} (inr q) = f.vacant i q

    pub never_full : r ≡ Full → ⊥
    never_full q =
        let h = f.crowded q in
        let u : true ≡ false = sym (h.taken 0 e.some) ∙ used_not costs 0 (e.zero 0 e.some) in
        let z : ◌≡◌ {A = ℕ} 0 1 = cc in
        let w : ⊥ = omega arith in w
