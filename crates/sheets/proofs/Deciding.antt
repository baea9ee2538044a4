-- What the tests of a whole sheet decide, one at a time.
use mathlib.Core.Path.{◌≡◌, refl, sym, ap, ◌∙◌}
use mathlib.Core.Bool.{Bool, true, false, ◌&&◌}
use mathlib.Core.List.{List}
use Prim.Native.Nat.{ℕ, ◌+◌, ◌*◌, ◌<◌, ◌≤◌}
use native.Mathlib.Nat.{mul-le-mul}
use native.Mathlib.Omega.{arith}
use borrow.Author.Tests.{eq-eqb, ne_eqb, le-leb, lt-leb}
use lib.Dec.{eqb, leb}
use lib.ListN.{length, get_or, take, drop, length-take, length-drop}
use Rattle.std.proofs.lemmas.List.{get_or-take, get_or-drop}
use Rattle.base.specs.Words.{sum}
use Rattle.base.proofs.Words.{second_fails, first_fails}
use Rattle.base.proofs.Sums.{sum_same}
use Rattle.sheets.specs.declared.Side.TheVariants.{Shortest as shortest, Longest as longest}
use Rattle.sheets.specs.Figures.{the_budget, answers, all_pops, lists, told}
use Rattle.sheets.specs.Good.{deals, wins, good_mark, good_sheet}

-- n words from a place on, added up
pub part_sums : (a : List ℕ) (from n total : ℕ) (t : Bool) → from + n ≤ length a
    → t ≡ eqb (sum (length (take n (drop from a))) (λ k. get_or (take n (drop from a)) k 0)) total → t ≡ eqb (sum n (λ k. get_or a (from + k) 0)) total
part_sums a from n total t h e =
    let long : length (take n (drop from a)) ≡ n = simp (length-take, length-drop) (omega arith) in
    e
    ∙ ap (λ (s : ℕ). eqb s total) (ap (λ (m : ℕ). sum m (λ k. get_or (take n (drop from a)) k 0)) long
    ∙ sum_same (λ k. get_or (take n (drop from a)) k 0) (λ k. get_or a (from + k) 0) n (λ k l. get_or-take n (drop from a) k 0 l ∙ get_or-drop from a k 0))

module _ (a : List ℕ) where
  abbrev t1 : Bool
  t1 = eqb (length a) 716

  abbrev t2 : Bool
  t2 = leb (told a the_budget) 1000000

  abbrev t3 : Bool
  t3 = eqb (sum 7 (λ k. told a (answers k))) (deals a)

  abbrev t4 : Bool
  t4 = eqb (sum 201 (λ m. told a (lists m))) (wins a)

  abbrev t7 : Bool
  t7 = leb (told a all_pops) (told a the_budget * deals a)

  abbrev from6 : Bool
  from6 = good_mark longest a && t7

  abbrev from5 : Bool
  from5 = good_mark shortest a && from6

  pub good_long : (length a ≡ 716 → ⊥) → false ≡ good_sheet a
  unfolding good_sheet
  good_long d = sym (first_fails t1 (t2 && (t3 && (t4 && from5))) (ne_eqb (length a) 716 d))

  fails_2 : t2 ≡ false → false ≡ good_sheet a
  unfolding good_sheet
  fails_2 e = sym (second_fails t1 (t2 && (t3 && (t4 && from5))) (first_fails t2 (t3 && (t4 && from5)) e))

  fails_3 : (t3 && (t4 && from5)) ≡ false → false ≡ good_sheet a
  unfolding good_sheet
  fails_3 e = sym (second_fails t1 (t2 && (t3 && (t4 && from5))) (second_fails t2 (t3 && (t4 && from5)) e))

  pub good_budget : 1000000 < get_or a 0 0 → false ≡ good_sheet a
  unfolding told
  good_budget h = fails_2 (lt-leb (get_or a 0 0) 1000000 h)

  module _ (count : ℕ) (q : count ≡ deals a) where
    answered : (t : Bool) → t ≡ eqb (sum 7 (λ k. get_or a (3 + k) 0)) count → t3 ≡ t
    unfolding told
    answered t u = sym (u ∙ ap (eqb (sum 7 (λ k. get_or a (3 + k) 0))) q)

    pub good_answers : (t : Bool) → t ≡ eqb (sum 7 (λ k. get_or a (3 + k) 0)) count → t ≡ false → false ≡ good_sheet a
    good_answers t u v = fails_3 (first_fails t3 (t4 && from5) (answered t u ∙ v))

    pub good_lists : (t : Bool) → t ≡ eqb (sum 201 (λ k. get_or a (15 + k) 0)) (get_or a 3 0) → t ≡ false → false ≡ good_sheet a
    unfolding told
    good_lists t u v = fails_3 (second_fails t3 (t4 && from5) (first_fails t4 from5 (sym u ∙ v)))

    pub good_shortest : (t : Bool) → t ≡ good_mark shortest a → t ≡ false → false ≡ good_sheet a
    good_shortest t u v = fails_3 (second_fails t3 (t4 && from5) (second_fails t4 from5 (first_fails (good_mark shortest a) from6 (sym u ∙ v))))

    pub good_longest : (t : Bool) → t ≡ good_mark longest a → t ≡ false → false ≡ good_sheet a
    good_longest t u v =
        fails_3 (second_fails t3 (t4 && from5) (second_fails t4 from5 (second_fails (good_mark shortest a) from6 (first_fails (good_mark longest a) t7 (sym u ∙ v)))))

    -- with all the others passed, the pops decide
    pub good_pops : length a ≡ 716 → get_or a 0 0 ≤ 1000000 → (t u v w : Bool)
        → t ≡ eqb (sum 7 (λ k. get_or a (3 + k) 0)) count → t ≡ true → u ≡ eqb (sum 201 (λ k. get_or a (15 + k) 0)) (get_or a 3 0) → u ≡ true
        → v ≡ good_mark shortest a → v ≡ true → w ≡ good_mark longest a → w ≡ true
        → leb (get_or a 10 0) (get_or a 0 0 * count) ≡ good_sheet a
    unfolding good_sheet told
    good_pops l b t u v w e3 y3 e4 y4 e5 y5 e6 y6 =
        ap (λ (x : ℕ). leb (get_or a 10 0) (get_or a 0 0 * x)) q
        ∙ sym (rw (eq-eqb (length a) 716 l, le-leb (get_or a 0 0) 1000000 b, answered t e3 ∙ y3, sym e4 ∙ y4, sym e5 ∙ y5, sym e6 ∙ y6) refl)

-- the product of a budget and a number of deals fits a word
pub pops_fit : (b d : ℕ) → b ≤ 1000000 → d ≤ 32000 → b * d ≤ 32000000000
pops_fit b d p q = mul-le-mul p q
