-- The birth of a node at its place: kin as before, with one mark and one child more.
use mathlib.Core.Path.{◌≡◌, sym, ap, ◌∙◌}
use mathlib.Core.List.{List, ◌∷◌}
use Prim.Native.Nat.{ℕ, ◌+◌, ◌*◌, ◌<◌, ◌≤◌}
use native.Mathlib.Omega.{arith}
use native.Mathlib.Decide.{ℕ_discrete}
use lib.ListN.{length, get_or}
use Rattle.kin.specs.Places.{parent_at, refs_at, top_at, Kin}
use Rattle.kin.proofs.Marks.{But, Taken, taken, held_taken}
use Rattle.kin.proofs.Roots.{rooted_taken, taken_fresh, rooted_fresh, held-fresh}
use Rattle.kin.proofs.Needed.{root_held}

-- ---- a birth: a child of place p

module _ {capacity n : ℕ} {cost : ℕ → ℕ} {m : ℕ} {marks words slots : List ℕ} {living : ℕ} (k : Kin capacity n cost (m ∷ marks) words slots living) where
  -- in a place that was given back, the top of the stack
  module _ (some : living < n) where
    abbrev top : ℕ
    top = top_at capacity n living

    abbrev i : ℕ
    i = get_or slots top 0

    top_in : top < capacity
    top_in = omega (arith, k.places.roomy)

    is_free : refs_at words i ≡ 0
    is_free = k.places.free top (omega arith) top_in

    is_in_lem : i < n
    is_in_lem = k.places.inside top (omega arith) top_in

    not_root : 0 < i
    not_root = by_place (ℕ_discrete i 0)
      where
        by_place : Dec (i ≡ 0) → 0 < i
        by_place (yes e) = omega (arith, ap (refs_at words) e, is_free, (root_held k.rooted k.counted).1)
        by_place (no d) = omega arith

    pub kin_again : {p : ℕ} (C : ℕ → ℕ) (then : List ℕ) → p < n → 0 < refs_at words p → length then ≡ length words
        → Taken n i p (parent_at words) (refs_at words) (parent_at then) (refs_at then) → But n i cost C → cost p < C i
        → Kin capacity n C (i ∷ m ∷ marks) then slots (living + 1)
    kin_again {p} C then l h long t b lower = record {
      places = record {
        worded = omega (arith, k.places.worded);
        slotted = k.places.slotted;
        roomy = k.places.roomy;
        small = k.places.small;
        alive = held_taken t is_in_lem is_free h ∙ ap (λ (x : ℕ). x + 1) k.places.alive;
        inside = λ j u v. k.places.inside j (under j u) v;
        free = λ j u v. still j u v;
        once = λ j q u v w e. k.places.once j q (under j u) v w e;
      };
      counted = taken t k.counted not_root is_in_lem is_free h;
      rooted = rooted_taken t k.rooted k.counted is_free l h b lower;
    }
      where
        under : (j : ℕ) → top_at capacity n (living + 1) ≤ j → top ≤ j
        under j u = omega (arith, k.places.roomy)

        above : (j : ℕ) → top_at capacity n (living + 1) ≤ j → top < j
        above j u = omega (arith, k.places.roomy)

        still : (j : ℕ) → top_at capacity n (living + 1) ≤ j → j < capacity → refs_at then (get_or slots j 0) ≡ 0
        still j u v =
            let f = k.places.free j (under j u) v in
            t.same (get_or slots j 0) (k.places.inside j (under j u) v)
            (λ e. k.places.once top j (omega arith) (above j u) v (sym e))
            (λ e. let w : ⊥ = omega (arith, ap (refs_at words) e) in w)
            ∙ f

  -- in a place that was never used: none is free
  pub kin_fresh : n ≤ living → n < capacity → {p : ℕ} (C : ℕ → ℕ) (then : List ℕ) → p < n → 0 < refs_at words p → (n + 1) * 5 ≤ length then
      → Taken (n + 1) n p (parent_at words) (refs_at words) (parent_at then) (refs_at then) → But (n + 1) n cost C → cost p < C n
      → Kin capacity (n + 1) C (n ∷ m ∷ marks) then slots (living + 1)
  kin_fresh full room {p} C then l h wide t b lower = record {
    places = record {
      worded = wide;
      slotted = k.places.slotted;
      roomy = omega arith;
      small = k.places.small;
      alive = held-fresh k.rooted t l h ∙ ap (λ (x : ℕ). x + 1) k.places.alive;
      inside = λ j u v. absurd (let w : ⊥ = omega arith in w);
      free = λ j u v. absurd (let w : ⊥ = omega arith in w);
      once = λ j q u v w e. omega arith;
    };
    counted = taken_fresh k.rooted t l h k.counted;
    rooted = rooted_fresh k.rooted t l h k.counted b lower;
  }
