-- What a sum of two sheets tells; equal settings, and no number in both, as facts; the key of a good mark.
use mathlib.Core.Path.{◌≡◌, refl, sym, ap, ap₂, ◌∙◌, subst}
use mathlib.Core.Bool.{Bool, true, false, cond, not, ◌&&◌}
use mathlib.Core.List.{List}
use Prim.Native.Nat.{ℕ, suc, min, ◌<◌}
use native.Mathlib.Omega.{arith}
use native.Mathlib.Decide.{dec_lt}
use borrow.Author.Tests.{eq-eqb, ne_eqb, eqb-true, lt-ltb, le-ltb}
use lib.Dec.{eqb, ltb}
use lib.ListN.{length}
use Rattle.base.proofs.Words.{first, second, both, every_at, every_by, true_or_not}
use Rattle.sheets.specs.declared.Side.{Side}
use Rattle.sheets.specs.Figures.{Figure, the_budget, the_capacity, the_flag, mark_list, mark_deal, told}
use Rattle.sheets.specs.Over.{key_of, no_key, key_list, key_deal}
use Rattle.sheets.specs.Good.{covered, wins, good_mark}
use Rattle.sheets.specs.Adding.{flag_of, same_settings, apart, key_in, better, added_figure, added}
use Rattle.sheets.proofs.Reading.{Stands, words_tell, words_long}
use Rattle.sheets.proofs.Marks.{mark_below, mark_list_lem, mark_deal_lem, no_list_lem, no_deal}
use Rattle.sheets.proofs.Goodness.{Marked, Unmarked, mark_none, mark_some}

-- ---- settings

pub record Same (a b : List ℕ) : Type 0 where
  pub budget : told a the_budget ≡ told b the_budget
  pub capacity : told a the_capacity ≡ told b the_capacity
  pub flag : flag_of (told a the_flag) ≡ flag_of (told b the_flag)

module _ (a b : List ℕ) where
  abbrev s1 : Bool
  s1 = eqb (told a the_budget) (told b the_budget)

  abbrev s2 : Bool
  s2 = eqb (told a the_capacity) (told b the_capacity)

  abbrev s3 : Bool
  s3 = eqb (flag_of (told a the_flag)) (flag_of (told b the_flag))

  pub same_is : same_settings a b ≡ true → Same a b
  unfolding same_settings
  same_is t =
      let u = second s1 (s2 && s3) t in
      record {
        budget = eqb-true (told a the_budget) (told b the_budget) (first s1 (s2 && s3) t);
        capacity = eqb-true (told a the_capacity) (told b the_capacity) (first s2 s3 u);
        flag = eqb-true (flag_of (told a the_flag)) (flag_of (told b the_flag)) (second s2 s3 u);
      }

  pub is_same : Same a b → same_settings a b ≡ true
  unfolding same_settings
  is_same s =
      both (eq-eqb (told a the_budget) (told b the_budget) s.budget)
      (both (eq-eqb (told a the_capacity) (told b the_capacity) s.capacity) (eq-eqb (flag_of (told a the_flag)) (flag_of (told b the_flag)) s.flag))

-- ---- no number in both

not_one : (x y : Bool) → not (x && y) ≡ true → (x && y) ≡ false
not_one true true e = true_or_not false e refl
not_one true false e = refl
not_one false y e = refl

one_not : (x y : Bool) → (x && y) ≡ false → not (x && y) ≡ true
one_not true true e = true_or_not true refl e
one_not true false e = refl
one_not false y e = refl

module _ (a b : List ℕ) where
  pub apart_at : apart a b ≡ true → (i : ℕ) → i < 32000 → (covered a (suc i) && covered b (suc i)) ≡ false
  unfolding apart
  apart_at t i l = not_one (covered a (suc i)) (covered b (suc i)) (every_at (λ i. not (covered a (suc i) && covered b (suc i))) 32000 t i l)

  pub apart_by : ((i : ℕ) → i < 32000 → (covered a (suc i) && covered b (suc i)) ≡ false) → apart a b ≡ true
  unfolding apart
  apart_by h =
      every_by (λ i. not (covered a (suc i) && covered b (suc i))) 32000 (λ i l. one_not (covered a (suc i)) (covered b (suc i)) (h i l))

-- ---- what a sum tells

pub added_tells : (a b : List ℕ) (g : Figure) → Stands g → told (added a b) g ≡ added_figure a b g
unfolding added
added_tells a b g h = words_tell (added_figure a b) g h

pub added_long : (a b : List ℕ) → length (added a b) ≡ 716
unfolding added
added_long a b = words_long (added_figure a b)

-- the better of two, and its key
key_chosen : (e : Side) (t : Bool) (m n x y : ℕ)
    → cond (eqb (cond t n y) 0) no_key (key_of e (cond t m x) (cond t n y)) ≡ cond t (cond (eqb n 0) no_key (key_of e m n)) (cond (eqb y 0) no_key (key_of e x y))
key_chosen e true m n x y = refl
key_chosen e false m n x y = refl

lesser_of : (a b : ℕ) → cond (ltb b a) b a ≡ min a b
lesser_of a b = by_order (dec_lt b a)
  where
    by_order : Dec (b < a) → cond (ltb b a) b a ≡ min a b
    by_order (yes h) = rw (lt-ltb b a h) (omega arith)
    by_order (no h) = rw (le-ltb b a (omega arith)) (omega arith)

pub key_added : (e : Side) (a b : List ℕ) → key_in e (added a b) ≡ min (key_in e a) (key_in e b)
unfolding key_in added_figure
key_added e a b =
    ap₂ (λ (m n : ℕ). cond (eqb n 0) no_key (key_of e m n)) (added_tells a b (mark_list e) tt) (added_tells a b (mark_deal e) tt)
    ∙ key_chosen e (better e a b) (told b (mark_list e)) (told b (mark_deal e)) (told a (mark_list e)) (told a (mark_deal e))
    ∙ lesser_of (key_in e a) (key_in e b)

-- ---- the key of a good mark

module _ (e : Side) (a : List ℕ) where
  pub key_none : Unmarked e a → key_in e a ≡ no_key
  unfolding key_in
  key_none u = rw u.deal refl

  pub key_some : Marked e a → key_in e a ≡ key_of e (told a (mark_list e)) (told a (mark_deal e))
  unfolding key_in
  key_some k = let l = k.low in rw (ne_eqb (told a (mark_deal e)) 0 (λ q. let w : ⊥ = omega arith in w)) refl

  pub key_below : Marked e a → key_in e a < no_key
  key_below k =
      subst (λ (x : ℕ). x < no_key) (sym (key_some k)) (mark_below e (told a (mark_list e)) (told a (mark_deal e)) k.short k.low k.high)

  -- it tells the mark
  pub key_tells : good_mark e a ≡ true → (told a (mark_list e) ≡ key_list e (key_in e a)) × (told a (mark_deal e) ≡ key_deal (key_in e a))
  key_tells g = by_wins (dec_lt 0 (wins a))
    where
      by_wins : Dec (0 < wins a) → (told a (mark_list e) ≡ key_list e (key_in e a)) × (told a (mark_deal e) ≡ key_deal (key_in e a))
      by_wins (yes h) =
          let k = mark_some e a g h in (
            sym (ap (key_list e) (key_some k) ∙ mark_list_lem e (told a (mark_list e)) (told a (mark_deal e)) k.short k.low k.high),
            sym (ap key_deal (key_some k) ∙ mark_deal_lem e (told a (mark_list e)) (told a (mark_deal e)) k.short k.low k.high),
          )
      by_wins (no h) =
          let u = mark_none e a g (omega arith) in
          (u.list ∙ sym (ap (key_list e) (key_none u) ∙ no_list_lem e), u.deal ∙ sym (ap key_deal (key_none u) ∙ no_deal e))
