-- A store at a key's place leaves a table, in which that key has its new cost and every other key what it had.
use mathlib.Core.Path.{◌≡◌, refl, sym, ap, ◌∙◌, subst}
use mathlib.Core.Bool.{true}
use mathlib.Core.List.{List}
use Prim.Native.Nat.{ℕ, ◌+◌, ◌<◌, ◌≤◌}
use native.Mathlib.Omega.{arith}
use native.Mathlib.Decide.{ℕ_discrete}
use lib.ListN.{length, get_or, set, length-set}
use lib.Seq.{get_or-set_same, get_or-set_other}
use Rattle.base.proofs.Words.{not_so}
use Rattle.costs.specs.Entries.{is_used, holds}
use Rattle.costs.specs.CostIn.{known}
use Rattle.costs.specs.Table.{Reached, Table}
use Rattle.costs.specs.Promises.{Place, Stores}
use Rattle.costs.proofs.Entries.{held-used, held_one, used_stays, holds_stored, holds-elsewhere, cost_stored, cost_elsewhere}
use Rattle.costs.proofs.Meaning.{cost_found, cost_same}

module _ {keys costs : List ℕ} {n k at : ℕ} (c : ℕ) (t : Table keys costs n) (p : Place keys costs n k at) where
  abbrev X : List ℕ
  X = set keys at k

  abbrev Y : List ℕ
  Y = set costs at (c + 1)

  in_keys : at < length keys
  in_keys = omega (arith, t.keyed, p.within)

  in_costs : at < length costs
  in_costs = omega (arith, t.costed, p.within)

  stays : (i : ℕ) → is_used costs i ≡ true → is_used Y i ≡ true
  stays = used_stays keys costs at k c in_keys in_costs

  here : holds X Y at k ≡ true
  here = holds_stored keys costs at k c in_keys in_costs

  elsewhere : (i j : ℕ) → (i ≡ at → ⊥) → holds X Y i j ≡ holds keys costs i j
  elsewhere = holds-elsewhere keys costs at k c in_keys in_costs

  -- what the stored entry is for is k
  for_k : (i j : ℕ) → i ≡ at → holds X Y i j ≡ true → j ≡ k
  for_k i j e h = held_one X Y at j k (ap (λ (x : ℕ). holds X Y x j) (sym e) ∙ h) here

  -- k has no other entry
  only : (i : ℕ) → i < n → holds X Y i k ≡ true → i ≡ at
  only i l h = by_place (ℕ_discrete i at)
    where
      by_place : Dec (i ≡ at) → i ≡ at
      by_place (yes e) = e
      by_place (no d) = p.alone i l (sym (elsewhere i k d) ∙ h)

  small : c ≤ 200 → (i : ℕ) → i < n → get_or Y i 0 ≤ 201
  small b i l = by_place (ℕ_discrete i at)
    where
      by_place : Dec (i ≡ at) → get_or Y i 0 ≤ 201
      by_place (yes e) = omega (arith, ap (λ (x : ℕ). get_or Y x 0) e, get_or-set_same costs at (c + 1) 0 in_costs)
      by_place (no d) = omega (arith, get_or-set_other costs at i (c + 1) 0 d, t.small i l)

  single : (i j m : ℕ) → i < n → j < n → holds X Y i m ≡ true → holds X Y j m ≡ true → i ≡ j
  single i j m a b h g = by_place (ℕ_discrete i at) (ℕ_discrete j at)
    where
      by_place : Dec (i ≡ at) → Dec (j ≡ at) → i ≡ j
      by_place (yes e) d = e ∙ sym (only j b (ap (λ (x : ℕ). holds X Y j x) (sym (for_k i m e h)) ∙ g))
      by_place (no d) (yes e) = only i a (ap (λ (x : ℕ). holds X Y i x) (sym (for_k j m e g)) ∙ h) ∙ sym e
      by_place (no d) (no f) = t.single i j m a b (sym (elsewhere i m d) ∙ h) (sym (elsewhere j m f) ∙ g)

  reached_still : {m i : ℕ} → Reached costs n m i → Reached Y n m i
  reached_still r = record { way = λ j l w. stays j (r.way j l w) }

  reached : (i m : ℕ) → i < n → holds X Y i m ≡ true → Reached Y n m i
  reached i m l h = by_place (ℕ_discrete i at)
    where
      by_place : Dec (i ≡ at) → Reached Y n m i
      by_place (yes e) = subst (λ (x : ℕ). Reached Y n x i) (sym (for_k i m e h)) (subst (λ (x : ℕ). Reached Y n k x) (sym e) (reached_still p.reached))
      by_place (no d) = reached_still (t.reached i m l (sym (elsewhere i m d) ∙ h))

  -- no entry of another key is touched
  other : (j : ℕ) → (j ≡ k → ⊥) → (i : ℕ) → holds X Y i j ≡ holds keys costs i j
  other j d i = by_place (ℕ_discrete i at)
    where
      by_place : Dec (i ≡ at) → holds X Y i j ≡ holds keys costs i j
      by_place (yes e) =
          not_so (holds X Y i j) (λ h. d (for_k i j e h))
          ∙ sym (not_so (holds keys costs i j) (λ h. d (held_one keys costs i j k h (ap (λ (x : ℕ). holds keys costs x k) e ∙ p.own (ap (is_used costs) (sym e) ∙ held-used keys costs i j h)))))
      by_place (no f) = elsewhere i j f

  pub stored : c ≤ 200 → Stores keys costs (set keys at k) (set costs at (c + 1)) n at k c
  stored b =
      record {
        keyed = refl;
        costed = refl;
        table = record {
          some = t.some;
          most = t.most;
          keyed = omega (arith, length-set keys at k, t.keyed);
          costed = omega (arith, length-set costs at (c + 1), t.costed);
          small = small b;
          single = single;
          reached = reached;
        };
        best = cost_found X Y k n at p.within here only ∙ ap known (cost_stored keys costs at k c in_keys in_costs);
        others = λ j d. cost_same keys costs X Y j n (λ i l. other j d i) (λ i l h. cost_elsewhere keys costs at k c in_keys in_costs i (λ e. d (for_k i j e h)));
      }
