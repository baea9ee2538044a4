-- Under right counts a place is held exactly if it is needed, and the root is, while anything is marked.
use mathlib.Core.Path.{◌≡◌, refl, sym, ap, ◌∙◌, subst}
use mathlib.Core.Bool.{Bool, true, false, cond}
use mathlib.Core.List.{List, [], ◌∷◌, ◌++◌}
use Prim.Native.Nat.{ℕ, zero, suc, ◌+◌, ◌<◌, ◌≤◌}
use native.Mathlib.Omega.{arith}
use native.Mathlib.Decide.{ℕ_discrete, dec_lt}
use lib.Dec.{ltb}
use borrow.Author.Tests.{lt-ltb, ltb-true}
use Rattle.base.specs.Words.{occurs, sum}
use Rattle.base.proofs.Words.{occurs_none, occurs_here, occurs_other, occurs-append, same_test}
use Rattle.base.proofs.Sums.{sum_part}
use Rattle.kin.specs.Way.{way_up, way, ways, is_needed}
use Rattle.kin.specs.Counted.{is_held, is_child, children, Counted, Rooted}
use Rattle.kin.proofs.Children.{held_is_so, held_so, child_of_lem, child_counts}
use Rattle.kin.proofs.Marks.{marked_in, marked_held, parent_held}

-- ---- sums that are not nothing

sum_some : (f : ℕ → ℕ) (n : ℕ) → 0 < sum n f → (k : ℕ) × (k < n) × (0 < f k)
unfolding sum
sum_some f zero h = absurd (let w : ⊥ = omega arith in w)
sum_some f (suc n) h = last_or_before (dec_lt 0 (f n)) (sum_some f n)
  where
    last_or_before : Dec (0 < f n) → (0 < sum n f → (k : ℕ) × (k < n) × (0 < f k)) → (k : ℕ) × (k < suc n) × (0 < f k)
    last_or_before (yes l) before = (n, omega arith, l)
    last_or_before (no l) before = let b = before (omega arith) in (b.0, omega (arith, b.1), b.2)

-- a place that has children has one
some_child : (n : ℕ) (parent refs : ℕ → ℕ) (k : ℕ) → 0 < children n parent refs k
    → (i : ℕ) × (i < n) × (0 < i) × (0 < refs i) × (k ≡ parent i)
unfolding children
some_child n parent refs k h =
    let s = sum_some (λ i. cond (is_child parent refs k i) 1 0) n h in
    let c = child_of_lem parent refs k s.0 (so (is_child parent refs k s.0) s.2) in
    (s.0, s.1, c.0, c.1, c.2)
  where
    so : (b : Bool) → 0 < cond b 1 0 → b ≡ true
    so true l = refl
    so false l = absurd (let w : ⊥ = omega arith in w)

-- ---- ways

pub occurs-first : (k : ℕ) (l : List ℕ) → 0 < occurs k (k ∷ l)
occurs-first k l = omega (arith, occurs_here k k l refl)

pub occurs_later : (k i : ℕ) (l : List ℕ) → 0 < occurs k l → 0 < occurs k (i ∷ l)
unfolding occurs
occurs_later k i l h = omega arith

-- a number in a list is its first, or comes later
pub here_later : {A : Type 0} (k i : ℕ) (l : List ℕ) → 0 < occurs k (i ∷ l) → (k ≡ i → A) → (0 < occurs k l → A) → A
here_later {A} k i l h here later = by_test (ℕ_discrete k i)
  where
    by_test : Dec (k ≡ i) → A
    by_test (yes e) = here e
    by_test (no d) = later (omega (arith, occurs_other k i l d))

way-first : (parent : ℕ → ℕ) (fuel i : ℕ) → 0 < occurs i (way_up parent fuel i)
unfolding way_up
way-first parent zero i = occurs-first i []
way-first parent (suc fuel) zero = occurs-first 0 []
way-first parent (suc fuel) (suc k) = occurs-first (suc k) (way_up parent fuel (parent (suc k)))

-- a marked place is on its own way
mark_on_ways : (parent cost : ℕ → ℕ) (l : List ℕ) (k : ℕ) → 0 < occurs k l → 0 < occurs k (ways parent cost l)
unfolding ways way
mark_on_ways parent cost [] k o = absurd (let w : ⊥ = omega (arith, occurs_none k) in w)
mark_on_ways parent cost (m ∷ l) k o =
    here_later k m l o
    (λ e. let f = way-first parent (cost m) m in
    omega (arith, occurs-append k (way_up parent (cost m) m) (ways parent cost l), ap (λ (x : ℕ). occurs x (way_up parent (cost m) m)) e))
    (λ h. omega (arith, mark_on_ways parent cost l k h, occurs-append k (way_up parent (cost m) m) (ways parent cost l)))

module _ {n : ℕ} {parent cost refs : ℕ → ℕ} (r : Rooted n parent cost refs) where
  -- places that are held have ways of held places
  module _ {marks : List ℕ} (c : Counted n parent refs marks) where
    pub on_way : (fuel i k : ℕ) → i < n → 0 < refs i → 0 < occurs k (way_up parent fuel i) → (k < n) × (0 < refs k)
    unfolding way_up
    on_way zero i k l h o =
        here_later k i [] o (λ e. (omega arith, omega (arith, ap refs e))) (λ z. absurd (let w : ⊥ = omega (arith, occurs_none k) in w))
    on_way (suc fuel) zero k l h o =
        here_later k 0 [] o (λ e. (omega arith, omega (arith, ap refs e))) (λ z. absurd (let w : ⊥ = omega (arith, occurs_none k) in w))
    on_way (suc fuel) (suc i) k l h o =
        let p = r.inside (suc i) (omega arith) l h in
        here_later k (suc i) (way_up parent fuel (parent (suc i))) o (λ e. (omega arith, omega (arith, ap refs e)))
        (on_way fuel (parent (suc i)) k p (parent_held c (suc i) (omega arith) l h p))

    -- with enough fuel a way goes on to the root
    to_root : (fuel i : ℕ) → i < n → 0 < refs i → cost i ≤ fuel → 0 < occurs 0 (way_up parent fuel i)
    unfolding way_up
    to_root zero zero l h f = occurs-first 0 []
    to_root zero (suc i) l h f = absurd (let w : ⊥ = omega (arith, r.lower (suc i) (omega arith) l h) in w)
    to_root (suc fuel) zero l h f = occurs-first 0 []
    to_root (suc fuel) (suc i) l h f =
        let p = r.inside (suc i) (omega arith) l h in
        occurs_later 0 (suc i) (way_up parent fuel (parent (suc i)))
        (to_root fuel (parent (suc i)) p (parent_held c (suc i) (omega arith) l h p) (omega (arith, r.lower (suc i) (omega arith) l h)))

    -- the parent of what is on a way is on it
    next_on : (fuel i k : ℕ) → i < n → 0 < refs i → cost i ≤ fuel → 0 < k → 0 < occurs k (way_up parent fuel i)
        → 0 < occurs (parent k) (way_up parent fuel i)
    unfolding way_up
    next_on zero i k l h f z o =
        here_later k i [] o (λ e. absurd (let w : ⊥ = omega (arith, r.lower i (omega arith) l h) in w))
        (λ y. absurd (let w : ⊥ = omega (arith, occurs_none k) in w))
    next_on (suc fuel) zero k l h f z o =
        here_later k 0 [] o (λ e. absurd (let w : ⊥ = omega arith in w)) (λ y. absurd (let w : ⊥ = omega (arith, occurs_none k) in w))
    next_on (suc fuel) (suc i) k l h f z o =
        let p = r.inside (suc i) (omega arith) l h in
        let u = parent_held c (suc i) (omega arith) l h p in
        let rest : List ℕ = way_up parent fuel (parent (suc i)) in
        occurs_later (parent k) (suc i) rest
        (here_later k (suc i) rest o
        (λ e. subst (λ (x : ℕ). 0 < occurs x rest) (sym (ap parent e)) (way-first parent fuel (parent (suc i))))
        (next_on fuel (parent (suc i)) k p u (omega (arith, r.lower (suc i) (omega arith) l h)) z))

    -- ---- the ways from marks that are all held

    on_ways_of : (l : List ℕ) → ((m : ℕ) → 0 < occurs m l → 0 < occurs m marks) → (k : ℕ) → 0 < occurs k (ways parent cost l)
        → (k < n) × (0 < refs k)
    unfolding ways way
    on_ways_of [] s k o = absurd (let w : ⊥ = omega (arith, occurs_none k) in w)
    on_ways_of (m ∷ l) s k o =
        let mine = s m (occurs-first m l) in
        let rest = on_ways_of l (λ j h. s j (occurs_later j m l h)) k in
        let both = occurs-append k (way_up parent (cost m) m) (ways parent cost l) in
        by_test (on_way (cost m) m k (marked_in c m mine) (marked_held c m mine)) rest both (dec_lt 0 (occurs k (way_up parent (cost m) m)))
      where
        by_test : (0 < occurs k (way_up parent (cost m) m) → (k < n) × (0 < refs k)) → (0 < occurs k (ways parent cost l) → (k < n) × (0 < refs k))
            → occurs k (way_up parent (cost m) m ++ ways parent cost l) ≡ occurs k (way_up parent (cost m) m) + occurs k (ways parent cost l)
            → Dec (0 < occurs k (way_up parent (cost m) m)) → (k < n) × (0 < refs k)
        by_test mine rest both (yes h) = mine h
        by_test mine rest both (no h) = rest (omega arith)

    next_on_ways_of : (l : List ℕ) → ((m : ℕ) → 0 < occurs m l → 0 < occurs m marks) → (k : ℕ) → 0 < k → 0 < occurs k (ways parent cost l)
        → 0 < occurs (parent k) (ways parent cost l)
    unfolding ways way
    next_on_ways_of [] s k z o = absurd (let w : ⊥ = omega (arith, occurs_none k) in w)
    next_on_ways_of (m ∷ l) s k z o =
        let mine = s m (occurs-first m l) in
        let rest = next_on_ways_of l (λ j h. s j (occurs_later j m l h)) k z in
        let both = occurs-append k (way_up parent (cost m) m) (ways parent cost l) in
        let next = occurs-append (parent k) (way_up parent (cost m) m) (ways parent cost l) in
        by_test (next_on (cost m) m k (marked_in c m mine) (marked_held c m mine) (omega arith) z) rest both next
        (dec_lt 0 (occurs k (way_up parent (cost m) m)))
      where
        by_test :
            (0 < occurs k (way_up parent (cost m) m) → 0 < occurs (parent k) (way_up parent (cost m) m))
            → (0 < occurs k (ways parent cost l) → 0 < occurs (parent k) (ways parent cost l))
            → occurs k (way_up parent (cost m) m ++ ways parent cost l) ≡ occurs k (way_up parent (cost m) m) + occurs k (ways parent cost l)
            → occurs (parent k) (way_up parent (cost m) m ++ ways parent cost l)
            ≡ occurs (parent k) (way_up parent (cost m) m) + occurs (parent k) (ways parent cost l)
            → Dec (0 < occurs k (way_up parent (cost m) m)) → 0 < occurs (parent k) (way_up parent (cost m) m ++ ways parent cost l)
        by_test mine rest both next (yes h) = omega (arith, mine h)
        by_test mine rest both next (no h) = omega (arith, rest (omega arith))

    pub on_ways : (k : ℕ) → 0 < occurs k (ways parent cost marks) → (k < n) × (0 < refs k)
    on_ways = on_ways_of marks (λ m h. h)

    -- ---- ways that stay: whatever happens to places that are not held

    module _ (P C : ℕ → ℕ) (p : (k : ℕ) → k < n → 0 < refs k → P k ≡ parent k) (e : (k : ℕ) → k < n → 0 < refs k → C k ≡ cost k) where
      up_same : (fuel i : ℕ) → i < n → 0 < refs i → way_up P fuel i ≡ way_up parent fuel i
      unfolding way_up
      up_same zero i l h = refl
      up_same (suc fuel) zero l h = refl
      up_same (suc fuel) (suc i) l h =
          let q = r.inside (suc i) (omega arith) l h in
          ap (λ (x : ℕ). suc i ∷ way_up P fuel x) (p (suc i) l h)
          ∙ ap (λ (w : List ℕ). suc i ∷ w) (up_same fuel (parent (suc i)) q (parent_held c (suc i) (omega arith) l h q))

      pub way_same : (i : ℕ) → i < n → 0 < refs i → way P C i ≡ way parent cost i
      unfolding way
      way_same i l h = ap (λ (x : ℕ). way_up P x i) (e i l h) ∙ up_same (cost i) i l h

      ways_same_of : (l : List ℕ) → ((m : ℕ) → 0 < occurs m l → 0 < occurs m marks) → ways P C l ≡ ways parent cost l
      unfolding ways
      ways_same_of [] s = refl
      ways_same_of (m ∷ l) s =
          let mine = s m (occurs-first m l) in
          ap (λ (w : List ℕ). w ++ ways P C l) (way_same m (marked_in c m mine) (marked_held c m mine))
          ∙ ap (λ (w : List ℕ). way parent cost m ++ w) (ways_same_of l (λ j h. s j (occurs_later j m l h)))

      pub ways_same : ways P C marks ≡ ways parent cost marks
      ways_same = ways_same_of marks (λ m h. h)

    -- ---- needed

    -- a held place is marked or has a held child
    from_child : (k : ℕ) → k < n → 0 < refs k
        → ((i : ℕ) → i < n → 0 < i → 0 < refs i → k ≡ parent i → 0 < occurs i (ways parent cost marks)) → 0 < occurs k (ways parent cost marks)
    from_child k l h up = by_marks (dec_lt 0 (occurs k marks))
      where
        by_marks : Dec (0 < occurs k marks) → 0 < occurs k (ways parent cost marks)
        by_marks (yes o) = mark_on_ways parent cost marks k o
        by_marks (no o) =
            let e = c.count k l in
            let s = some_child n parent refs k (omega arith) in
            subst (λ (x : ℕ). 0 < occurs x (ways parent cost marks)) (sym s.4)
            (next_on_ways_of marks (λ m q. q) s.0 s.2 (up s.0 s.1 s.2 s.3 s.4))

    -- a child costs more, and none costs more than all together
    pub on_some_way : (left k : ℕ) → k < n → 0 < refs k → sum n cost ≤ cost k + left → 0 < occurs k (ways parent cost marks)
    on_some_way zero k l h f =
        from_child k l h (λ i m z g e. absurd (let w : ⊥ = omega (arith, sum_part cost n i m, r.lower i z m g, ap cost e) in w))
    on_some_way (suc left) k l h f =
        from_child k l h (λ i m z g e. on_some_way left i m g (omega (arith, r.lower i z m g, ap cost e)))

    pub held_is : (k : ℕ) → k < n → is_held refs k ≡ is_needed parent cost marks k
    unfolding is_needed
    held_is k l =
        same_test (is_held refs k) (ltb 0 (occurs k (ways parent cost marks)))
        (λ e. lt-ltb 0 (occurs k (ways parent cost marks)) (on_some_way (sum n cost) k l (held_so refs k e) (omega arith)))
        (λ e. held_is_so refs k (on_ways k (ltb-true 0 (occurs k (ways parent cost marks)) e)).1)

  -- ---- the root

  module _ {m : ℕ} {marks : List ℕ} (c : Counted n parent refs (m ∷ marks)) where
    pub root_needed : is_needed parent cost (m ∷ marks) 0 ≡ true
    unfolding is_needed ways way
    root_needed =
        let mine = occurs-first m marks in
        let o = to_root c (cost m) m (marked_in c m mine) (marked_held c m mine) (omega arith) in
        lt-ltb 0 (occurs 0 (way_up parent (cost m) m ++ ways parent cost marks))
        (omega (arith, occurs-append 0 (way_up parent (cost m) m) (ways parent cost marks)))

    pub root_held : (0 < n) × (0 < refs 0)
    unfolding is_needed
    root_held = on_ways c 0 (ltb-true 0 (occurs 0 (ways parent cost (m ∷ marks))) root_needed)

    -- a way that does not begin at the root comes to it from a child
    root_child : (fuel i : ℕ) → 0 < i → i < n → 0 < refs i → cost i ≤ fuel → 0 < children n parent refs 0
    root_child zero i z l h f = absurd (let w : ⊥ = omega (arith, r.lower i z l h) in w)
    root_child (suc fuel) i z l h f = there_or_on (root_child fuel (parent i)) (ℕ_discrete (parent i) 0)
      where
        there_or_on : (0 < parent i → parent i < n → 0 < refs (parent i) → cost (parent i) ≤ fuel → 0 < children n parent refs 0)
            → Dec (parent i ≡ 0) → 0 < children n parent refs 0
        there_or_on on (yes e) = subst (λ (x : ℕ). 0 < children n parent refs x) e (child_counts n parent refs i z l h)
        there_or_on on (no d) =
            let p = r.inside i z l h in
            on (omega arith) p (parent_held c i z l h p) (omega (arith, r.lower i z l h))

  -- while anything else is marked, the root's mark is not all that holds it
  pub root_twice : {m : ℕ} {marks : List ℕ} → Counted n parent refs (0 ∷ m ∷ marks) → 1 < refs 0
  root_twice {m} {marks} c = by_place (ℕ_discrete m 0)
    where
      mine : 0 < occurs m (0 ∷ m ∷ marks)
      mine = occurs_later m 0 (m ∷ marks) (occurs-first m marks)

      by_place : Dec (m ≡ 0) → 1 < refs 0
      by_place (yes e) = omega (arith, c.count 0 (root_held c).0, occurs_here 0 0 (m ∷ marks) refl, occurs_here 0 m marks (sym e))
      by_place (no d) =
          omega (
            arith,
            c.count 0 (root_held c).0,
            occurs_here 0 0 (m ∷ marks) refl,
            root_child c (cost m) m (omega arith) (marked_in c m mine) (marked_held c m mine) (omega arith),
          )
