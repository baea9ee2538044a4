-- Adding: a sum that is given is a good sheet; which of two comes first is no matter, nor which two of three.
use mathlib.Core.Path.{◌≡◌, refl, sym, ap, ap₂, ◌∙◌, subst}
use mathlib.Core.Bool.{Bool, true, false, cond, ◌&&◌, ◌||◌}
use mathlib.Core.List.{List}
use Prim.Native.Nat.{ℕ, zero, suc, min, ◌+◌, ◌*◌, ◌<◌, ◌≤◌}
use native.Mathlib.Nat.{not-suc-le-zero}
use native.Mathlib.Omega.{arith}
use native.Mathlib.Decide.{dec_lt}
use borrow.Author.Tests.{lt-ltb, le-ltb}
use lib.Dec.{eqb, ltb}
use Rattle.base.specs.Answer.{given, unless}
use Rattle.base.proofs.Answers.{given_by}
use Rattle.base.proofs.Words.{first, second, same_test}
use Rattle.base.proofs.Sums.{sum_same, sum-add, sum_part}
use Rattle.sheets.specs.declared.Side.{Side}
use Rattle.sheets.specs.Figures.{Figure, the_budget, the_capacity, the_flag, answers, all_pops, mark_list, mark_deal, lists, covers, told}
use Rattle.sheets.specs.Over.{Settings, Result, behind, key_list, key_deal, figure_over, sheet_over}
use Rattle.sheets.specs.Good.{covered, deals, wins, good_mark, good_sheet}
use Rattle.sheets.specs.Adding.{flag_of, same_settings, apart, key_in, better, added_figure, added, add_asked}
use Rattle.sheets.proofs.Reading.{Stands, words_same}
use Rattle.sheets.proofs.Covers.{covered-added, covered_is}
use Rattle.sheets.proofs.Overs.{over_same, over_or}
use Rattle.sheets.proofs.Joined.{lesser_by, over_tells, sum_of_sheets}
use Rattle.sheets.proofs.Goodness.{Marked, mark_none, mark_some, none_good, some_good, IsGood, good_is, is_good, Answered, sheet_good}
use Rattle.sheets.proofs.Sums.{Same, same_is, is_same, apart_at, apart_by, added_tells, added_long, key_added, key_none, key_some, key_below, key_tells}

-- ---- the mark of a sum: x has the better one

module _ (e : Side) (x y S : List ℕ) (gx : IsGood x) (gy : IsGood y) (first-is : key_in e x ≤ key_in e y)
    (list : told S (mark_list e) ≡ told x (mark_list e)) (deal : told S (mark_deal e) ≡ told x (mark_deal e))
    (won : wins S ≡ wins x + wins y) (sums : (m : ℕ) → m < 201 → told S (lists m) ≡ told x (lists m) + told y (lists m))
    (more : (i : ℕ) → i < 32000 → covered x (suc i) ≡ true → covered S (suc i) ≡ true) where
  more_at : (n : ℕ) → 0 < n → n ≤ 32000 → covered x n ≡ true → covered S n ≡ true
  more_at zero h l c = absurd (not-suc-le-zero h)
  more_at (suc i) h l c = more i l c

  -- a length that the other sheet has is no better
  not_better : Marked e x → (m : ℕ) → m < 201 → 0 < told y (lists m) → behind e (told x (mark_list e)) ≤ behind e m
  not_better k m h c =
      let p = sum_part (λ m. told y (lists m)) 201 m h in
      let q = gy.counted in
      let j = mark_some e y (gy.marks e) (omega arith) in
      let a = key_some e x k in
      let b = key_some e y j in
      let u = j.best m h c in
      let v = j.high in
      let w = k.low in
      omega arith

  chosen_marked : Marked e x → Marked e S
  chosen_marked k =
      record {
        short = subst (λ (z : ℕ). z ≤ 200) (sym list) k.short;
        some = subst (λ (z : ℕ). 0 < told S (lists z)) (sym list)
            (let s = sums (told x (mark_list e)) (let t = k.short in omega arith) in let t = k.some in omega arith);
        best = λ m h c. subst (λ (z : ℕ). behind e z ≤ behind e m) (sym list) (by_count m h c (dec_lt 0 (told x (lists m))));
        low = subst (λ (z : ℕ). 0 < z) (sym deal) k.low;
        high = subst (λ (z : ℕ). z ≤ 32000) (sym deal) k.high;
        has = ap (covered S) deal ∙ more_at (told x (mark_deal e)) k.low k.high k.has;
      }
    where
      by_count : (m : ℕ) → m < 201 → 0 < told S (lists m) → Dec (0 < told x (lists m)) → behind e (told x (mark_list e)) ≤ behind e m
      by_count m h c (yes d) = k.best m h d
      by_count m h c (no d) = not_better k m h (let s = sums m h in omega arith)

  chosen_good : good_mark e S ≡ true
  chosen_good = by_wins (dec_lt 0 (wins x)) (dec_lt 0 (wins y))
    where
      by_wins : Dec (0 < wins x) → Dec (0 < wins y) → good_mark e S ≡ true
      by_wins (yes h) d = some_good e S (omega arith) (chosen_marked (mark_some e x (gx.marks e) h))
      by_wins (no h) (no d) =
          let u = mark_none e x (gx.marks e) (omega arith) in
          none_good e S (omega arith) (record { list = list ∙ u.list; deal = deal ∙ u.deal })
      by_wins (no h) (yes d) =
          let a = key_none e x (mark_none e x (gx.marks e) (omega arith)) in
          let b = key_below e y (mark_some e y (gy.marks e) d) in
          absurd (let w : ⊥ = omega arith in w)

-- ---- a sum is good

module _ (a b : List ℕ) (ga : IsGood a) (gb : IsGood b) (same : Same a b) (free : apart a b ≡ true) where
  abbrev S : List ℕ
  S = added a b

  tells_sum : (g : Figure) → Stands g → added_figure a b g ≡ told a g + told b g → told S g ≡ told a g + told b g
  tells_sum g h e = added_tells a b g h ∙ e

  deals-added : deals S ≡ deals a + deals b
  unfolding deals
  deals-added =
      over_same (covered S) (λ n. covered a n || covered b n) (λ n. 1) (λ n. 1)
      (λ i l. ap (λ (t : Bool). cond t 1 0) (covered-added a b free i l))
      ∙ over_or (covered a) (covered b) (λ n. 1) (apart_at a b free)

  answers_added : (k : ℕ) → k < 7 → told S (answers k) ≡ told a (answers k) + told b (answers k)
  unfolding added_figure
  answers_added k h = tells_sum (answers k) h refl

  lists_added : (m : ℕ) → m < 201 → told S (lists m) ≡ told a (lists m) + told b (lists m)
  unfolding added_figure
  lists_added m h = tells_sum (lists m) h refl

  pops_added : told S all_pops ≡ told a all_pops + told b all_pops
  unfolding added_figure
  pops_added = tells_sum all_pops tt refl

  budget_added : told S the_budget ≡ told a the_budget
  unfolding added_figure
  budget_added = added_tells a b the_budget tt

  wins-added : wins S ≡ wins a + wins b
  wins-added = answers_added 0 (omega arith)

  covered-left : (i : ℕ) → i < 32000 → covered a (suc i) ≡ true → covered S (suc i) ≡ true
  covered-left i l c = covered-added a b free i l ∙ rw c refl

  covered_right : (i : ℕ) → i < 32000 → covered b (suc i) ≡ true → covered S (suc i) ≡ true
  covered_right i l c = covered-added a b free i l ∙ rw c (or_yes (covered a (suc i)))
    where
      or_yes : (t : Bool) → (t || true) ≡ true
      or_yes true = refl
      or_yes false = refl

  mark_added : (e : Side) → good_mark e S ≡ true
  unfolding added_figure
  mark_added e = by_order (dec_lt (key_in e b) (key_in e a))
    where
      by_order : Dec (key_in e b < key_in e a) → good_mark e S ≡ true
      by_order (yes h) =
          let t = lt-ltb (key_in e b) (key_in e a) h in
          chosen_good e b a S gb ga (omega arith) (added_tells a b (mark_list e) tt ∙ rw t refl) (added_tells a b (mark_deal e) tt ∙ rw t refl)
          (let w = wins-added in omega arith) (λ m l. let s = lists_added m l in omega arith) covered_right
      by_order (no h) =
          let t = le-ltb (key_in e b) (key_in e a) (omega arith) in
          chosen_good e a b S ga gb (omega arith) (added_tells a b (mark_list e) tt ∙ rw t refl) (added_tells a b (mark_deal e) tt ∙ rw t refl)
          wins-added lists_added covered-left

  pub added_is_good : IsGood (added a b)
  added_is_good =
      record {
        long = added_long a b;
        budget = let e = budget_added in let g = ga.budget in omega arith;
        answered =
            sum_same (λ k. told S (answers k)) (λ k. told a (answers k) + told b (answers k)) 7 answers_added
            ∙ sum-add (λ k. told a (answers k)) (λ k. told b (answers k)) 7
            ∙ ap₂ (λ (x y : ℕ). x + y) ga.answered gb.answered ∙ sym deals-added;
        counted =
            sum_same (λ m. told S (lists m)) (λ m. told a (lists m) + told b (lists m)) 201 lists_added
            ∙ sum-add (λ m. told a (lists m)) (λ m. told b (lists m)) 201
            ∙ ap₂ (λ (x y : ℕ). x + y) ga.counted gb.counted ∙ sym wins-added;
        marks = mark_added;
        pops =
            subst (λ (x : ℕ). told S all_pops ≤ x) (ap₂ (λ (x y : ℕ). x * y) (sym budget_added) (sym deals-added))
            (let q = subst (λ (x : ℕ). told b all_pops ≤ x * deals b) (sym same.budget) gb.pops in
            let r = ga.pops in
            let s = pops_added in
            omega arith);
      }

-- ---- what is asked of two sheets

-- a sum is given
pub record Given (a b x : List ℕ) : Type 0 where
  pub one : IsGood a
  pub other : IsGood b
  pub same : Same a b
  pub free : apart a b ≡ true
  pub sum : x ≡ added a b

module _ (a b : List ℕ) where
  pub given_is : (x : List ℕ) → add_asked a b ≡ given x → Given a b x
  unfolding add_asked
  given_is x q =
      let u = given_by (good_sheet a && good_sheet b) 47 (unless (same_settings a b) 45 (unless (apart a b) 44 (given (added a b)))) q in
      let v = given_by (same_settings a b) 45 (unless (apart a b) 44 (given (added a b))) u.1 in
      let w = given_by (apart a b) 44 (given (added a b)) v.1 in
      record {
        one = good_is a (first (good_sheet a) (good_sheet b) u.0);
        other = good_is b (second (good_sheet a) (good_sheet b) u.0);
        same = same_is a b v.0;
        free = w.0;
        sum = let z = w.1 in cc;
      }

  pub is_given : IsGood a → IsGood b → Same a b → apart a b ≡ true → add_asked a b ≡ given (added a b)
  unfolding add_asked
  is_given ga gb s f = rw (is_good a ga, is_good b gb, is_same a b s, f) refl

-- a sum that is given is a good sheet
pub sum_good : (a b x : List ℕ) → add_asked a b ≡ given x → good_sheet x ≡ true
sum_good a b x q =
    let g = given_is a b x q in
    is_good x (subst IsGood (sym g.sum) (added_is_good a b g.one g.other g.same g.free))

-- ---- which of two comes first

same_turned : (a b : List ℕ) → Same a b → Same b a
same_turned a b s = record { budget = sym s.budget; capacity = sym s.capacity; flag = sym s.flag }

apart_turned : (a b : List ℕ) → apart a b ≡ true → apart b a ≡ true
apart_turned a b t = apart_by b a (λ i l. turned (covered a (suc i)) (covered b (suc i)) (apart_at a b t i l))
  where
    turned : (x y : Bool) → (x && y) ≡ false → (y && x) ≡ false
    turned true true e = e
    turned true false e = refl
    turned false true e = refl
    turned false false e = refl

module _ (a b : List ℕ) (ga : IsGood a) (gb : IsGood b) (same : Same a b) where
  marks_turned : (e : Side) (f : ℕ → ℕ) (g : Figure) → told a g ≡ f (key_in e a) → told b g ≡ f (key_in e b)
      → cond (better e a b) (told b g) (told a g) ≡ cond (better e b a) (told a g) (told b g)
  marks_turned e f g p q =
      rw (p, q)
      (lesser_by f (key_in e a) (key_in e b) ∙ ap f (let z : min (key_in e a) (key_in e b) ≡ min (key_in e b) (key_in e a) = omega arith in z)
      ∙ sym (lesser_by f (key_in e b) (key_in e a)))

  turned_at : (g : Figure) → Stands g → added_figure a b g ≡ added_figure b a g
  unfolding added_figure
  turned_at the_budget h = same.budget
  turned_at the_capacity h = same.capacity
  turned_at the_flag h = same.flag
  turned_at (answers k) h = omega arith
  turned_at all_pops h = omega arith
  turned_at (mark_list e) h = marks_turned e (key_list e) (mark_list e) (key_tells e a (ga.marks e)).0 (key_tells e b (gb.marks e)).0
  turned_at (mark_deal e) h = marks_turned e key_deal (mark_deal e) (key_tells e a (ga.marks e)).1 (key_tells e b (gb.marks e)).1
  turned_at (lists m) h = omega arith
  turned_at (covers w) h = omega arith

  pub added_comm : added a b ≡ added b a
  unfolding added
  added_comm = words_same (added_figure a b) (added_figure b a) turned_at

-- adding is commutative, refusals and all
pub add_comm : (a b : List ℕ) → add_asked a b ≡ add_asked b a
unfolding add_asked
add_comm a b = by_good (good_sheet a) (good_sheet b) refl refl
  where
    settings : same_settings a b ≡ same_settings b a
    settings =
        same_test (same_settings a b) (same_settings b a) (λ t. is_same b a (same_turned a b (same_is a b t))) (λ t. is_same a b (same_turned b a (same_is b a t)))

    numbers : apart a b ≡ apart b a
    numbers = same_test (apart a b) (apart b a) (apart_turned a b) (apart_turned b a)

    by_settings : IsGood a → IsGood b → (t : Bool) → same_settings a b ≡ t
        → unless t 45 (unless (apart a b) 44 (given (added a b))) ≡ unless t 45 (unless (apart b a) 44 (given (added b a)))
    by_settings ga gb true e = rw (numbers, added_comm a b ga gb (same_is a b e)) refl
    by_settings ga gb false e = refl

    by_good : (x y : Bool) → good_sheet a ≡ x → good_sheet b ≡ y
        → unless (x && y) 47 (unless (same_settings a b) 45 (unless (apart a b) 44 (given (added a b))))
        ≡ unless (y && x) 47 (unless (same_settings b a) 45 (unless (apart b a) 44 (given (added b a))))
    by_good true true p q =
        by_settings (good_is a p) (good_is b q) (same_settings a b) refl
        ∙ ap (λ (t : Bool). unless t 45 (unless (apart b a) 44 (given (added b a)))) settings
    by_good true false p q = refl
    by_good false true p q = refl
    by_good false false p q = refl

-- ---- which two of three are added first

flag_twice : (x : ℕ) → flag_of (flag_of x) ≡ flag_of x
flag_twice x = once (eqb x 0)
  where
    once : (t : Bool) → flag_of (cond t 0 1) ≡ cond t 0 1
    once true = refl
    once false = refl

-- the best of three
best_of_three : (ka kb kc va vb vc : ℕ)
    → cond (ltb kc (min ka kb)) vc (cond (ltb kb ka) vb va) ≡ cond (ltb (min kb kc) ka) (cond (ltb kc kb) vc vb) va
best_of_three ka kb kc va vb vc = by_order (dec_lt kb ka) (dec_lt kc kb) (dec_lt kc ka)
  where
    by_order : Dec (kb < ka) → Dec (kc < kb) → Dec (kc < ka)
        → cond (ltb kc (min ka kb)) vc (cond (ltb kb ka) vb va) ≡ cond (ltb (min kb kc) ka) (cond (ltb kc kb) vc vb) va
    by_order (yes p) (yes q) d =
        rw (lt-ltb kc (min ka kb) (omega arith), lt-ltb (min kb kc) ka (omega arith), lt-ltb kc kb q) refl
    by_order (yes p) (no q) d =
        rw (le-ltb kc (min ka kb) (omega arith), lt-ltb (min kb kc) ka (omega arith), le-ltb kc kb (omega arith), lt-ltb kb ka p) refl
    by_order (no p) (yes q) (yes d) =
        rw (lt-ltb kc (min ka kb) (omega arith), lt-ltb (min kb kc) ka (omega arith), lt-ltb kc kb q) refl
    by_order (no p) (yes q) (no d) =
        rw (le-ltb kc (min ka kb) (omega arith), le-ltb (min kb kc) ka (omega arith), le-ltb kb ka (omega arith)) refl
    by_order (no p) (no q) d =
        rw (le-ltb kc (min ka kb) (omega arith), le-ltb (min kb kc) ka (omega arith), le-ltb kb ka (omega arith)) refl

module _ (a b c : List ℕ) where
  plus : (g : Figure) → Stands g → ((x y : List ℕ) → added_figure x y g ≡ told x g + told y g) → added_figure (added a b) c g ≡ added_figure a (added b c) g
  plus g h sums =
      let p = sums (added a b) c in
      let q = sums a (added b c) in
      let u = added_tells a b g h ∙ sums a b in
      let v = added_tells b c g h ∙ sums b c in
      omega arith

  best_three : (e : Side) (g : Figure) → Stands g → ((x y : List ℕ) → added_figure x y g ≡ cond (better e x y) (told y g) (told x g))
      → added_figure (added a b) c g ≡ added_figure a (added b c) g
  best_three e g h marks =
      marks (added a b) c
      ∙ ap₂ (λ (k v : ℕ). cond (ltb (key_in e c) k) (told c g) v) (key_added e a b) (added_tells a b g h ∙ marks a b)
      ∙ best_of_three (key_in e a) (key_in e b) (key_in e c) (told a g) (told b g) (told c g)
      ∙ sym (marks a (added b c) ∙ ap₂ (λ (k v : ℕ). cond (ltb k (key_in e a)) v (told a g)) (key_added e b c) (added_tells b c g h ∙ marks b c))

  three_at : (g : Figure) → Stands g → added_figure (added a b) c g ≡ added_figure a (added b c) g
  unfolding added_figure
  three_at the_budget h = added_tells a b the_budget tt
  three_at the_capacity h = added_tells a b the_capacity tt
  three_at the_flag h = ap flag_of (added_tells a b the_flag tt) ∙ flag_twice (told a the_flag)
  three_at (answers k) h = plus (answers k) h (λ x y. refl)
  three_at all_pops h = plus all_pops h (λ x y. refl)
  three_at (mark_list e) h = best_three e (mark_list e) h (λ x y. refl)
  three_at (mark_deal e) h = best_three e (mark_deal e) h (λ x y. refl)
  three_at (lists m) h = plus (lists m) h (λ x y. refl)
  three_at (covers w) h = plus (covers w) h (λ x y. refl)

  pub added_assoc : added (added a b) c ≡ added a (added b c)
  unfolding added
  added_assoc = words_same (added_figure (added a b) c) (added_figure a (added b c)) three_at

-- a sum has the settings of its first sheet
same_added : (a b : List ℕ) → Same a (added a b)
unfolding added_figure
same_added a b =
    record {
      budget = sym (added_tells a b the_budget tt);
      capacity = sym (added_tells a b the_capacity tt);
      flag = sym (ap flag_of (added_tells a b the_flag tt) ∙ flag_twice (told a the_flag));
    }

same_next : {a b c : List ℕ} → Same a b → Same b c → Same a c
same_next p q = record { budget = p.budget ∙ q.budget; capacity = p.capacity ∙ q.capacity; flag = p.flag ∙ q.flag }

-- what is apart from a sum is apart from both, and the other way round
module _ (a b c : List ℕ) (free : apart a b ≡ true) where
  apart_parts : apart (added a b) c ≡ true → (apart a c ≡ true) × (apart b c ≡ true)
  apart_parts t = (
    apart_by a c (λ i l. left (covered a (suc i)) (covered b (suc i)) (covered c (suc i)) (at i l)),
    apart_by b c (λ i l. right (covered a (suc i)) (covered b (suc i)) (covered c (suc i)) (at i l)),
  )
    where
      at : (i : ℕ) → i < 32000 → ((covered a (suc i) || covered b (suc i)) && covered c (suc i)) ≡ false
      at i l = ap (λ (x : Bool). x && covered c (suc i)) (sym (covered-added a b free i l)) ∙ apart_at (added a b) c t i l

      left : (x y z : Bool) → ((x || y) && z) ≡ false → (x && z) ≡ false
      left true y z e = e
      left false y z e = refl

      right : (x y z : Bool) → ((x || y) && z) ≡ false → (y && z) ≡ false
      right true true z e = e
      right true false z e = refl
      right false y z e = e

  apart_whole : apart c a ≡ true → apart c b ≡ true → apart c (added a b) ≡ true
  apart_whole p q =
      apart_by c (added a b) (λ i l. ap (λ (x : Bool). covered c (suc i) && x) (covered-added a b free i l)
      ∙ neither (covered a (suc i)) (covered b (suc i)) (covered c (suc i)) (apart_at c a p i l) (apart_at c b q i l))
    where
      neither : (x y z : Bool) → (z && x) ≡ false → (z && y) ≡ false → (z && (x || y)) ≡ false
      neither true y z e f = e
      neither false y z e f = f

-- where a and b are added, and c to that, b and c can be added, and that to a: the sums are equal
pub add_assoc : (a b c x y : List ℕ) → add_asked a b ≡ given x → add_asked x c ≡ given y
    → (add_asked b c ≡ given (added b c)) × (add_asked a (added b c) ≡ given y)
add_assoc a b c x y p q =
    let g = given_is a b x p in
    let h = given_is x c y q in
    let free-x : apart (added a b) c ≡ true = subst (λ (z : List ℕ). apart z c ≡ true) g.sum h.free in
    let same-x : Same (added a b) c = subst (λ (z : List ℕ). Same z c) g.sum h.same in
    let parts = apart_parts a b c g.free free-x in
    let same-ac : Same a c = same_next (same_added a b) same-x in
    let same-bc : Same b c = same_next (same_turned a b g.same) same-ac in
    let good-bc = added_is_good b c g.other h.other same-bc parts.1 in (
      is_given b c g.other h.other same-bc parts.1,
      is_given a (added b c) g.one good-bc (same_next g.same (same_added b c)) (apart_whole b c a parts.1 g.free parts.0)
          ∙ ap given (sym (h.sum ∙ ap (λ (z : List ℕ). added z c) g.sum ∙ added_assoc a b c)),
    )

-- ---- sheets over deals

module _ (s : Settings) (r : ℕ → Result) (low : s.budget ≤ 1000000) where
  same_over : (p q : ℕ → Bool) → Same (sheet_over s r p) (sheet_over s r q)
  unfolding figure_over
  same_over p q =
      record {
        budget = over_tells s r p the_budget tt ∙ sym (over_tells s r q the_budget tt);
        capacity = over_tells s r p the_capacity tt ∙ sym (over_tells s r q the_capacity tt);
        flag = ap flag_of (over_tells s r p the_flag tt ∙ sym (over_tells s r q the_flag tt));
      }

  -- the sheets over two sets of deals that share no number are added, and give the sheet over both
  pub overs_asked : (p q : ℕ → Bool) → ((i : ℕ) → i < 32000 → (p (suc i) && q (suc i)) ≡ false)
      → ((i : ℕ) → i < 32000 → p (suc i) ≡ true → Answered s.budget (r (suc i)))
      → ((i : ℕ) → i < 32000 → q (suc i) ≡ true → Answered s.budget (r (suc i)))
      → add_asked (sheet_over s r p) (sheet_over s r q) ≡ given (sheet_over s r (λ n. p n || q n))
  overs_asked p q none fa fb =
      is_given A B (good_is A (sheet_good s r p low fa)) (good_is B (sheet_good s r q low fb)) (same_over p q)
      (apart_by A B (λ i l. ap₂ (λ (x y : Bool). x && y) (covered_is s r p i l) (covered_is s r q i l) ∙ none i l))
      ∙ ap given (sum_of_sheets s r p q none)
    where
      A : List ℕ
      A = sheet_over s r p

      B : List ℕ
      B = sheet_over s r q
