-- The turns of giving back, and holding: places, counts and the stack of free places stay right.
use mathlib.Core.Path.{◌≡◌, refl, sym, ap, ◌∙◌, subst}
use mathlib.Core.List.{List, ◌∷◌}
use Prim.Native.Nat.{ℕ, zero, suc, ◌+◌, ◌*◌, ◌-◌, ◌<◌, ◌≤◌}
use native.Mathlib.Omega.{arith}
use native.Mathlib.Decide.{ℕ_discrete, dec_lt}
use borrow.Author.Tests.{lt-ltb, le-ltb}
use lib.ListN.{length, get_or, set, length-set}
use lib.Seq.{get_or-set_same, get_or-set_other}
use Rattle.kin.specs.Counted.{Counted, Rooted}
use Rattle.kin.specs.Places.{parent_at, refs_at, counting, top_at, Places, Kin, Kept, keeps, given_back}
use Rattle.kin.proofs.Children.{held_most, held_some}
use Rattle.kin.proofs.Marks.{first_in, counted_same, mark_more, mark_less, let_go, held_marked, held_let_go, marked_held}
use Rattle.kin.proofs.Roots.{rooted_fewer}
use Rattle.kin.proofs.Needed.{occurs-first, root_twice}
use Rattle.kin.proofs.Words.{Alike, alike_on, parents_alike, counting_alike, refs_there, refs_else, refs_but}

-- ---- places

-- what is on the stack is free, so that it is no place that is held
not_on_stack : {words slots : List ℕ} {capacity n living i : ℕ} → Places words slots capacity n living → 0 < refs_at words i
    → (k : ℕ) → top_at capacity n living ≤ k → k < capacity → get_or slots k 0 ≡ i → ⊥
not_on_stack {words} p h k t l e = omega (arith, p.free k t l, ap (refs_at words) e)

module _ {words slots : List ℕ} {capacity n living i : ℕ} (p : Places words slots capacity n living) (l : i < n) where
  there : i * 5 + 4 < length words
  there = omega (arith, p.worded)

  -- a held place gets another count and stays held
  places_held : (refs : ℕ) → 0 < refs_at words i → 0 < refs → Places (counting words i refs) slots capacity n living
  places_held refs h m = record {
    worded = omega (arith, p.worded, (counting_alike words i refs).long);
    slotted = p.slotted;
    roomy = p.roomy;
    small = p.small;
    alive = held_marked (refs_but words i refs n) h (omega (arith, refs_there words i refs there)) ∙ p.alive;
    inside = p.inside;
    free = λ k t b. refs_else words i refs (get_or slots k 0) (not_on_stack p h k t b) ∙ p.free k t b;
    once = p.once;
  }

  -- a place that is held no more lies on the stack
  module _ (o : refs_at words i ≡ 1) (left : ℕ) (e : living ≡ left + 1) where
    few : living ≤ n
    few = omega (arith, held_most n (refs_at words), p.alive)

    abbrev new : List ℕ
    new = set slots (top_at capacity n left) i

    on_top : get_or new (top_at capacity n left) 0 ≡ i
    on_top = get_or-set_same slots (top_at capacity n left) i 0 (omega (arith, few, p.roomy, p.slotted))

    under : (k : ℕ) → top_at capacity n left < k → get_or new k 0 ≡ get_or slots k 0
    under k b = get_or-set_other slots (top_at capacity n left) k i 0 (λ q. let w : ⊥ = omega arith in w)

    lower : (k : ℕ) → top_at capacity n left < k → top_at capacity n living ≤ k
    lower k b = omega (arith, few, p.roomy)

    by_place : (P : ℕ → Type 0) → P i → ((k : ℕ) → top_at capacity n living ≤ k → k < capacity → P (get_or slots k 0))
        → (k : ℕ) → top_at capacity n left ≤ k → k < capacity → P (get_or new k 0)
    by_place P here other k t b = which (ℕ_discrete k (top_at capacity n left))
      where
        which : Dec (k ≡ top_at capacity n left) → P (get_or new k 0)
        which (yes q) = subst P (sym (ap (λ (x : ℕ). get_or new x 0) q ∙ on_top)) here
        which (no d) = let u : top_at capacity n left < k = omega arith in subst P (sym (under k u)) (other k (lower k u) b)

    places_freed : Places (counting words i 0) new capacity n left
    places_freed = record {
      worded = omega (arith, p.worded, (counting_alike words i 0).long);
      slotted = omega (arith, p.slotted, length-set slots (top_at capacity n left) i);
      roomy = p.roomy;
      small = p.small;
      alive = omega (arith, held_let_go (refs_but words i 0 n) l (omega arith) (refs_there words i 0 there), p.alive);
      inside = by_place (λ x. x < n) l p.inside;
      free = by_place (λ x. refs_at (counting words i 0) x ≡ 0) (refs_there words i 0 there)
          (λ k t b. refs_else words i 0 (get_or slots k 0) (not_on_stack p (omega arith) k t b) ∙ p.free k t b);
      once = λ j k t b m q. which j k t b m q (ℕ_discrete j (top_at capacity n left));
    }
      where
        which : (j k : ℕ) → top_at capacity n left ≤ j → j < k → k < capacity → get_or new j 0 ≡ get_or new k 0
            → Dec (j ≡ top_at capacity n left) → ⊥
        which j k t b m q (yes s) =
            let u : top_at capacity n left < k = omega arith in
            not_on_stack p (omega arith) k (lower k u) m (sym (under k u) ∙ sym q ∙ ap (λ (x : ℕ). get_or new x 0) s ∙ on_top)
        which j k t b m q (no d) =
            let u : top_at capacity n left < j = omega arith in
            let v : top_at capacity n left < k = omega arith in
            p.once j k (lower j u) b m (sym (under j u) ∙ q ∙ under k v)

-- ---- kin

module _ (words : List ℕ) (i refs : ℕ) where
  abbrev now : List ℕ
  now = counting words i refs

  -- nothing is held that was not
  rooted_on : {n : ℕ} {cost : ℕ → ℕ} → 0 < refs_at words i → Rooted n (parent_at words) cost (refs_at words) → Rooted n (parent_at now) cost (refs_at now)
  rooted_on {n} {cost} h r =
      rooted_fewer (parent_at now) cost (refs_at now) r (λ k m. parents_alike (counting_alike words i refs) k) (λ k m. refl)
      (λ k m q. was k q (ℕ_discrete k i))
    where
      was : (k : ℕ) → 0 < refs_at now k → Dec (k ≡ i) → 0 < refs_at words k
      was k q (yes e) = omega (arith, ap (refs_at words) e)
      was k q (no d) = omega (arith, refs_else words i refs k d)

  -- the parents stand in the new words as they stood in the old
  counted_on : {n : ℕ} {marks : List ℕ} → Counted n (parent_at words) (refs_at now) marks → Counted n (parent_at now) (refs_at now) marks
  counted_on {n} {marks} c =
      counted_same (parent_at now) (refs_at now) marks c (λ k m. parents_alike (counting_alike words i refs) k) (λ k m. refl) (λ k. refl)

module _ {capacity n : ℕ} {cost : ℕ → ℕ} {words slots : List ℕ} {living : ℕ} where
  pub kin_held : {marks : List ℕ} (i : ℕ) → Kin capacity n cost marks words slots living → i < n → 0 < refs_at words i
      → Kin capacity n cost (i ∷ marks) (counting words i (refs_at words i + 1)) slots living
  kin_held i k l h =
      let more : ℕ = refs_at words i + 1 in
      record {
        places = places_held k.places l more h (omega arith);
        counted = counted_on words i more
            (mark_more (refs_but words i more n) k.counted l h (refs_there words i more (there k.places l)));
        rooted = rooted_on words i more h k.rooted;
      }

  module _ {i m : ℕ} {marks : List ℕ} (k : Kin capacity n cost (i ∷ m ∷ marks) words slots living) where
    pub place_in_lem : i < n
    place_in_lem = first_in i k.counted

    pub place_held : 0 < refs_at words i
    place_held = marked_held k.counted i (occurs-first i (m ∷ marks))

    pub some_living : 0 < living
    some_living = omega (arith, k.places.alive, held_some n (refs_at words) i place_in_lem place_held)

    -- the root keeps a count besides its mark
    not_root : refs_at words i ≡ 1 → 0 < i
    not_root o = by_place (ℕ_discrete i 0)
      where
        by_place : Dec (i ≡ 0) → 0 < i
        by_place (yes e) =
            omega (
              arith,
              ap (refs_at words) e,
              root_twice k.rooted (subst (λ (x : ℕ). Counted n (parent_at words) (refs_at words) (x ∷ m ∷ marks)) e k.counted),
            )
        by_place (no d) = omega arith

    -- a mark goes, and the place is held still
    pub kin_stop : 1 < refs_at words i → Kin capacity n cost (m ∷ marks) (counting words i (refs_at words i - 1)) slots living
    kin_stop h =
        let less : ℕ = refs_at words i - 1 in
        let s = refs_there words i less (there k.places place_in_lem) in
        record {
          places = places_held k.places place_in_lem less place_held (omega arith);
          counted = counted_on words i less (mark_less (refs_but words i less n) k.counted h (omega arith));
          rooted = rooted_on words i less place_held k.rooted;
        }

    -- a place's last mark goes: it is free, and its parent has the mark
    pub kin_turn : refs_at words i ≡ 1 → (left : ℕ) → living ≡ left + 1
        → Kin capacity n cost (parent_at words i ∷ m ∷ marks) (counting words i 0) (set slots (top_at capacity n left) i) left
    kin_turn o left e =
        let z = not_root o in
        record {
          places = places_freed k.places place_in_lem o left e;
          counted = counted_on words i 0
              (let_go (refs_but words i 0 n) k.counted z (k.rooted.inside i z place_in_lem place_held) o
              (refs_there words i 0 (there k.places place_in_lem)));
          rooted = rooted_on words i 0 place_held k.rooted;
        }

-- ---- the whole of giving back

module _ (capacity n : ℕ) (words slots : List ℕ) (living i : ℕ) where
  pub give_on : refs_at words i ≡ 1
      → given_back capacity n words slots (suc living) i
      ≡ given_back capacity n (counting words i 0) (set slots (top_at capacity n living) i) living (parent_at words i)
  unfolding given_back
  give_on o = rw (le-ltb 1 (refs_at words i) (omega arith))

  pub give_stop : 1 < refs_at words i
      → given_back capacity n words slots (suc living) i ≡ keeps (counting words i (refs_at words i - 1)) slots (suc living)
  unfolding given_back
  give_stop h = rw (lt-ltb 1 (refs_at words i) h)

-- what is kept: kin for the marks that are left; the words but for the counts; the slots before the stack
pub record Back (capacity n : ℕ) (cost : ℕ → ℕ) (marks words slots : List ℕ) (living : ℕ) (g : Kept) : Type 0 where
  pub kin : Kin capacity n cost marks g.words g.slots g.living
  pub alike : Alike words g.words
  pub long : length g.slots ≡ length slots
  pub fewer : g.living ≤ living
  pub before : (k : ℕ) → k < top_at capacity n g.living → get_or g.slots k 0 ≡ get_or slots k 0

pub given_back_lem : {capacity n : ℕ} {cost : ℕ → ℕ} {m : ℕ} {marks words slots : List ℕ} (living : ℕ) {i : ℕ}
    → Kin capacity n cost (i ∷ m ∷ marks) words slots living
    → Back capacity n cost (m ∷ marks) words slots living (given_back capacity n words slots living i)
given_back_lem zero k = absurd (let w : ⊥ = omega (arith, some_living k) in w)
given_back_lem {capacity} {n} {cost} {m} {marks} {words} {slots} (suc living) {i} k =
    by_count (λ w s j q. given_back_lem living q) (dec_lt 1 (refs_at words i))
  where
    by_count :
        ((w s : List ℕ) (j : ℕ) → Kin capacity n cost (j ∷ m ∷ marks) w s living → Back capacity n cost (m ∷ marks) w s living (given_back capacity n w s living j))
        → Dec (1 < refs_at words i) → Back capacity n cost (m ∷ marks) words slots (suc living) (given_back capacity n words slots (suc living) i)
    by_count on (yes h) =
        subst (λ (g : Kept). Back capacity n cost (m ∷ marks) words slots (suc living) g) (sym (give_stop capacity n words slots living i h))
        (record {
          kin = kin_stop k h;
          alike = counting_alike words i (refs_at words i - 1);
          long = refl;
          fewer = omega arith;
          before = λ j b. refl;
        })
    by_count on (no h) =
        let o : refs_at words i ≡ 1 = omega (arith, place_held k) in
        let b = on (counting words i 0) (set slots (top_at capacity n living) i) (parent_at words i) (kin_turn k o living (omega arith)) in
        subst (λ (g : Kept). Back capacity n cost (m ∷ marks) words slots (suc living) g) (sym (give_on capacity n words slots living i o))
        (record {
          kin = b.kin;
          alike = alike_on (counting_alike words i 0) b.alike;
          long = b.long ∙ length-set slots (top_at capacity n living) i;
          fewer = omega (arith, b.fewer);
          before = λ j l.
              b.before j l
              ∙ get_or-set_other slots (top_at capacity n living) j i 0 (λ q. let w : ⊥ = omega (arith, b.fewer) in w);
        })
