-- Finding: two straight scans are the key's whole way, and what they stop at is its place.
use mathlib.Core.Path.{◌≡◌, refl, sym, ap, ◌∙◌, subst}
use mathlib.Core.Bool.{Bool, true, false, cond}
use mathlib.Core.List.{List}
use Prim.Native.Nat.{ℕ, ◌<◌, ◌≤◌}
use native.Mathlib.Omega.{arith}
use native.Mathlib.Decide.{dec_le, dec_lt}
use Rattle.base.proofs.Words.{not_so, true_or_not}
use Rattle.costs.specs.declared.Slot.{Slot}
use Rattle.costs.specs.declared.Slot.TheVariants.{At, Free, Full}
use Rattle.costs.specs.Entries.{is_used, holds}
use Rattle.costs.specs.Table.{home, away, Table}
use Rattle.costs.specs.Promises.{Part, Scans, slot_at, Place, Held, Vacant, Crowded, Finds}
use Rattle.costs.proofs.Entries.{held-used}
use Rattle.costs.proofs.Meaning.{cost_none, cost_found}
use Rattle.costs.proofs.Ways.{home_below, away_up, away_round, away_one}

-- different cases are never equal
pub never : {A : Type 0} → ◌≡◌ {A = ℕ} 0 1 → A
never z = absurd (let w : ⊥ = omega arith in w)

-- ---- a finding is one of three

module _ {keys costs : List ℕ} {n k : ℕ} where
  pub finds_held : {i : ℕ} → Held keys costs n k i → Finds keys costs n k (At i)
  finds_held {i} h =
      record {
        held = λ j e. let q : i ≡ j = cc in subst (λ (x : ℕ). Held keys costs n k x) q h;
        vacant = λ j e. never (cc);
        crowded = λ e. never (cc);
      }

  pub finds_vacant : {i : ℕ} → Vacant keys costs n k i → Finds keys costs n k (Free i)
  finds_vacant {i} h =
      record {
        held = λ j e. never (cc);
        vacant = λ j e. let q : i ≡ j = cc in subst (λ (x : ℕ). Vacant keys costs n k x) q h;
        crowded = λ e. never (cc);
      }

  pub finds_crowded : Crowded keys costs n k → Finds keys costs n k Full
  finds_crowded h =
      record {
        held = λ j e. never (cc);
        vacant = λ j e. never (cc);
        crowded = λ e. h;
      }

  -- ---- what a place says of the key

  pub place_held : {i : ℕ} → Place keys costs n k i → is_used costs i ≡ true → Held keys costs n k i
  place_held {i} p u = record { place = p; here = p.own u; best = cost_found keys costs k n i p.within (p.own u) p.alone }

  pub place_vacant : {i : ℕ} → Place keys costs n k i → is_used costs i ≡ false → Vacant keys costs n k i
  place_vacant {i} p u = record { place = p; free = u; none = cost_none keys costs k n absent }
    where
      absent : (j : ℕ) → j < n → holds keys costs j k ≡ false
      absent j l =
          not_so (holds keys costs j k)
          (λ h. true_or_not (is_used costs i) (ap (is_used costs) (sym (p.alone j l h)) ∙ held-used keys costs j k h) u)

  pub finds_place : {i : ℕ} {r : Slot} → Place keys costs n k i → r ≡ slot_at costs i → Finds keys costs n k r
  finds_place {i} {r} p e = subst (λ (s : Slot). Finds keys costs n k s) (sym e) (by_use (is_used costs i) refl)
    where
      by_use : (b : Bool) → is_used costs i ≡ b → Finds keys costs n k (cond b (At i) (Free i))
      by_use true u = finds_held (place_held p u)
      by_use false u = finds_vacant (place_vacant p u)

-- ---- the scans

pub part_upper : {keys costs : List ℕ} {n : ℕ} → Table keys costs n → (k f : ℕ) → f ≡ home n k → Part keys costs f n
part_upper {keys} {costs} {n} t k f e =
    record { rising = omega (arith, home_below n k t.some); keyed = t.keyed; costed = t.costed }

module _ {keys costs : List ℕ} {n k : ℕ} (t : Table keys costs n) where
  -- an entry is the key's place if it is free or the key's, and all before it on the way are used and others'
  place_by : (i : ℕ) → i < n → (is_used costs i ≡ true → holds keys costs i k ≡ true)
      → ((j : ℕ) → j < n → away n k j < away n k i → (is_used costs j ≡ true) × (holds keys costs j k ≡ false)) → Place keys costs n k i
  place_by i l o b =
      record {
        within = l;
        own = o;
        alone = λ j m h. by_order j m h (dec_lt (away n k j) (away n k i)) (dec_lt (away n k i) (away n k j));
        reached = record { way = λ j m w. (b j m w).0 };
      }
    where
      by_order : (j : ℕ) → j < n → holds keys costs j k ≡ true → Dec (away n k j < away n k i) → Dec (away n k i < away n k j) → j ≡ i
      by_order j m h (yes a) d = true_or_not (holds keys costs j k) h (b j m a).1
      by_order j m h (no a) (yes d) = t.single j i k m l h (o ((t.reached j k m h).way i l d))
      by_order j m h (no a) (no d) = away_one n k j i t.some m l (omega arith)

  pub place_upper : {f i : ℕ} → f ≡ home n k → Scans keys costs f n k i → i < n → Place keys costs n k i
  place_upper {f} {i} e s l = place_by i l (s.own l) (λ j m w. before j m w (dec_le (home n k) j))
    where
      before : (j : ℕ) → j < n → away n k j < away n k i → Dec (home n k ≤ j) → (is_used costs j ≡ true) × (holds keys costs j k ≡ false)
      before j m w (yes q) =
          let g = s.passed.low in
          let a = away_up n k j q in
          let b = away_up n k i (omega arith) in
          (s.passed.taken j (omega arith) (omega arith), s.passed.others j (omega arith) (omega arith))
      before j m w (no q) =
          let g = s.passed.low in
          let a = away_round n k j (omega arith) in
          let b = away_up n k i (omega arith) in
          let h = home_below n k t.some in
          absurd (let w : ⊥ = omega arith in w)

  module _ {f u : ℕ} (e : f ≡ home n k) (s : Scans keys costs f n k u) (g : n ≤ u) where
    pub place_lower : {i : ℕ} → Scans keys costs 0 f k i → i < f → Place keys costs n k i
    place_lower {i} r l =
        place_by i (let h = home_below n k t.some in omega arith) (r.own l) (λ j m w. before j m w (dec_le (home n k) j))
      where
        before : (j : ℕ) → j < n → away n k j < away n k i → Dec (home n k ≤ j) → (is_used costs j ≡ true) × (holds keys costs j k ≡ false)
        before j m w (yes q) = (s.passed.taken j (omega arith) (omega arith), s.passed.others j (omega arith) (omega arith))
        before j m w (no q) =
            let a = away_round n k j (omega arith) in
            let b = away_round n k i (omega arith) in
            let h = home_below n k t.some in
            (r.passed.taken j (omega arith) (omega arith), r.passed.others j (omega arith) (omega arith))

    pub finds_full : {i : ℕ} → Scans keys costs 0 f k i → f ≤ i → Finds keys costs n k Full
    finds_full {i} r l =
        finds_crowded (record { taken = λ j m. (passed j m (dec_le f j)).0; none = cost_none keys costs k n (λ j m. (passed j m (dec_le f j)).1) })
      where
        passed : (j : ℕ) → j < n → Dec (f ≤ j) → (is_used costs j ≡ true) × (holds keys costs j k ≡ false)
        passed j m (yes q) = (s.passed.taken j q (omega arith), s.passed.others j q (omega arith))
        passed j m (no q) = (r.passed.taken j (omega arith) (omega arith), r.passed.others j (omega arith) (omega arith))
