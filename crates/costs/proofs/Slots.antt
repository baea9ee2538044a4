-- What a caller who remembers a key's slot may rely on, and the table at the start.
use mathlib.Core.Path.{◌≡◌, sym, ap, ap₂, ◌∙◌}
use mathlib.Core.Bool.{true, false}
use mathlib.Core.List.{List}
use Prim.Native.Nat.{ℕ, ◌+◌, ◌<◌, ◌≤◌}
use native.Mathlib.Omega.{arith}
use native.Mathlib.Decide.{ℕ_discrete}
use lib.ListN.{length, get_or, set}
use Rattle.base.proofs.Words.{true_or_not}
use Rattle.costs.specs.Entries.{holds, cost_at}
use Rattle.costs.specs.CostIn.{unknown, known, cost_in}
use Rattle.costs.specs.Table.{Table}
use Rattle.costs.specs.Promises.{Place, Stores}
use Rattle.costs.proofs.Entries.{used_not, holds_free, held-used, held_one, holds_stored, holds-elsewhere}
use Rattle.costs.proofs.Meaning.{cost_none, cost_found}

-- ---- nothing stored yet

module _ (keys costs : List ℕ) (n : ℕ) (z : (i : ℕ) → i < n → get_or costs i 0 ≡ 0) where
  none_held : (i k : ℕ) → i < n → holds keys costs i k ≡ false
  none_held i k l = holds_free keys costs i k (used_not costs i (z i l))

  pub table_none : 1 ≤ n → n ≤ 4294967296 → n ≤ length keys → n ≤ length costs → Table keys costs n
  table_none a b c d =
      record {
        some = a;
        most = b;
        keyed = c;
        costed = d;
        small = λ i l. let e = z i l in omega arith;
        single = λ i j k l m h g. true_or_not (holds keys costs i k) h (none_held i k l);
        reached = λ i k l h. true_or_not (holds keys costs i k) h (none_held i k l);
      }

  pub unknown_none : (k : ℕ) → cost_in keys costs n k ≡ unknown
  unknown_none k = cost_none keys costs k n (λ i l. none_held i k l)

-- ---- a key's slot

module _ {keys costs : List ℕ} {n : ℕ} (t : Table keys costs n) (i k : ℕ) (l : i < n) (h : holds keys costs i k ≡ true) where
  -- its cost is the key's
  pub slot_cost : cost_in keys costs n k ≡ known (cost_at costs i)
  slot_cost = cost_found keys costs k n i l h (λ j m g. t.single j i k m l g h)

  pub slot_small : cost_at costs i ≤ 200
  unfolding cost_at
  slot_small = let s = t.small i l in omega arith

  -- and it is where the key's next cost goes
  pub slot_place : Place keys costs n k i
  slot_place = record { within = l; own = λ u. h; alone = λ j m g. t.single j i k m l g h; reached = t.reached i k l h }

-- ---- after a store

module _ {keys costs X Y : List ℕ} {n k at c : ℕ} (t : Table keys costs n) (p : Place keys costs n k at) (s : Stores keys costs X Y n at k c) where
  become : (i j : ℕ) → holds X Y i j ≡ holds (set keys at k) (set costs at (c + 1)) i j
  become i j = ap₂ (λ (x y : List ℕ). holds x y i j) s.keyed s.costed

  in_keys : at < length keys
  in_keys = omega (arith, t.keyed, p.within)

  in_costs : at < length costs
  in_costs = omega (arith, t.costed, p.within)

  -- the slot is the key's
  pub slot_new : holds X Y at k ≡ true
  slot_new = become at k ∙ holds_stored keys costs at k c in_keys in_costs

  -- every key's slot is still its own
  pub slot_stays : (i j : ℕ) → holds keys costs i j ≡ true → holds X Y i j ≡ true
  slot_stays i j h = by_place (ℕ_discrete i at)
    where
      same : i ≡ at → j ≡ k
      same e = held_one keys costs at j k there (p.own (held-used keys costs at j there))
        where
          there : holds keys costs at j ≡ true
          there = ap (λ (x : ℕ). holds keys costs x j) (sym e) ∙ h

      by_place : Dec (i ≡ at) → holds X Y i j ≡ true
      by_place (yes e) = ap₂ (holds X Y) e (same e) ∙ slot_new
      by_place (no d) = become i j ∙ holds-elsewhere keys costs at k c in_keys in_costs i j d ∙ h
