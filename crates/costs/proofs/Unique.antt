-- Every promise allows one result only (where it is `r ≡ d`, by `once`).
use mathlib.Core.Path.{◌≡◌, refl, sym, ap}
use mathlib.Core.List.{List}
use Prim.Native.Nat.{ℕ, ◌<◌}
use native.Mathlib.Omega.{arith}
use native.Mathlib.Decide.{dec_lt}
use Rattle.base.proofs.Words.{true_or_not}
use Rattle.base.proofs.Unique.{once}
use Rattle.costs.specs.declared.Slot.{Slot}
use Rattle.costs.specs.declared.Slot.TheVariants.{At, Free, Full}
use Rattle.costs.specs.Entries.{is_used, holds}
use Rattle.costs.specs.CostIn.{KnownCost, unknown, known}
use Rattle.costs.specs.Table.{away}
use Rattle.costs.specs.Promises.{Vacant, Crowded, Finds, Scans, Stores}
use Rattle.costs.proofs.Finding.{never}
use Rattle.costs.proofs.Ways.{away_one}

not_both_lem : {A : Type 0} {a : KnownCost} {c : ℕ} → a ≡ known c → a ≡ unknown → A
not_both_lem p q = never (cc)

module _ {keys costs : List ℕ} {n k : ℕ} where
  vacant_once : {i j : ℕ} → Vacant keys costs n k i → Vacant keys costs n k j → i ≡ j
  vacant_once {i} {j} v w = by_order (dec_lt (away n k i) (away n k j)) (dec_lt (away n k j) (away n k i))
    where
      by_order : Dec (away n k i < away n k j) → Dec (away n k j < away n k i) → i ≡ j
      by_order (yes a) d = true_or_not (is_used costs i) (w.place.reached.way i v.place.within a) v.free
      by_order (no a) (yes d) = true_or_not (is_used costs j) (v.place.reached.way j w.place.within d) w.free
      by_order (no a) (no d) = let l = v.place.within in away_one n k i j (omega arith) l w.place.within (omega arith)

  vacant-crowded : {A : Type 0} {i : ℕ} → Vacant keys costs n k i → Crowded keys costs n k → A
  vacant-crowded {A} {i} v c = true_or_not (is_used costs i) (c.taken i v.place.within) v.free

  -- of `find`
  pub find_once : (r s : Slot) → Finds keys costs n k r → Finds keys costs n k s → r ≡ s
  find_once (At i) (At j) p q = ap At (sym ((p.held i refl).place.alone j (q.held j refl).place.within (q.held j refl).here))
  find_once (At i) (Free j) p q = not_both_lem (p.held i refl).best (q.vacant j refl).none
  find_once (At i) Full p q = not_both_lem (p.held i refl).best (q.crowded refl).none
  find_once (Free i) (At j) p q = not_both_lem (q.held j refl).best (p.vacant i refl).none
  find_once (Free i) (Free j) p q = ap Free (vacant_once (p.vacant i refl) (q.vacant j refl))
  find_once (Free i) Full p q = vacant-crowded (p.vacant i refl) (q.crowded refl)
  find_once Full (At j) p q = not_both_lem (q.held j refl).best (p.crowded refl).none
  find_once Full (Free j) p q = vacant-crowded (q.vacant j refl) (p.crowded refl)
  find_once Full Full p q = refl

-- of `scan`
pub scan_once : {keys costs : List ℕ} {from end k i j : ℕ} → Scans keys costs from end k i → Scans keys costs from end k j → i ≡ j
scan_once {keys} {costs} {from} {end} {k} {i} {j} p q = by_order (dec_lt i j) (dec_lt j i)
  where
    -- the higher one would have passed the lower
    not_below : {a b : ℕ} → Scans keys costs from end k a → Scans keys costs from end k b → a < b → i ≡ j
    not_below {a} {b} x y l =
        let g = x.passed.low in
        let h = y.high in
        true_or_not (holds keys costs a k) (x.own (omega arith) (y.passed.taken a g l)) (y.passed.others a g l)

    by_order : Dec (i < j) → Dec (j < i) → i ≡ j
    by_order (yes l) d = not_below p q l
    by_order (no l) (yes d) = not_below q p d
    by_order (no l) (no d) = omega arith

-- of `store`
pub stores_once : {keys costs X Y X' Y' : List ℕ} {n i k c : ℕ} → Stores keys costs X Y n i k c → Stores keys costs X' Y' n i k c → (X ≡ X') × (Y ≡ Y')
stores_once p q = (once p.keyed q.keyed, once p.costed q.costed)
