-- What a good sheet is, clause by clause; every sheet over deals that were answered is good.
use mathlib.Core.Path.{◌≡◌, refl, sym, ap, ap₂, ◌∙◌, subst}
use mathlib.Core.Bool.{Bool, true, false, cond, ◌&&◌, ◌||◌}
use mathlib.Core.List.{List}
use mathlib.Core.Logic.{◌⊎◌, inl, inr}
use Prim.Native.Nat.{ℕ, suc, ◌*◌, ◌<◌, ◌≤◌}
use native.Mathlib.Omega.{arith}
use native.Mathlib.Decide.{ℕ_discrete, dec_lt}
use borrow.Author.Tests.{eq-eqb, ne_eqb, eqb-true, lt-ltb, ltb-true, le-leb, leb-true}
use lib.Dec.{eqb, ltb, leb}
use lib.ListN.{length, get_or}
use Rattle.base.specs.Words.{every, sum, occurs}
use Rattle.base.proofs.Words.{first, second, both, every_at, every_by}
use Rattle.base.proofs.Sums.{sum_same, sum-zero, sum_one, sum_part}
use Rattle.sheets.specs.declared.Side.{Side}
use Rattle.sheets.specs.declared.Side.TheVariants.{Shortest as shortest, Longest as longest}
use Rattle.sheets.specs.Figures.{answers_counted, the_budget, answers, all_pops, mark_list, mark_deal, lists, told}
use Rattle.sheets.specs.Over.{Settings, Result, won, over, behind, key_of, no_key, best_key, key_list, key_deal, figure_over, sheet_over}
use Rattle.sheets.specs.Good.{covered, deals, wins, is_absent, is_best, has_deal, good_mark, good_sheet}
use Rattle.sheets.proofs.Reading.{words_long}
use Rattle.sheets.proofs.Covers.{covered_is}
use Rattle.sheets.proofs.Overs.{over_same, over_most, over_part, over_some, over-count, over_times, over_swap}
use Rattle.sheets.proofs.Marks.{best_below, best_is, mark_below, mark_list_lem, mark_deal_lem, no_list_lem, no_deal}
use Rattle.sheets.proofs.Joined.{over_tells}

-- ---- clause by clause

-- the mark of a sheet with a win
pub record Marked (e : Side) (a : List ℕ) : Type 0 where
  pub short : told a (mark_list e) ≤ 200
  pub some : 0 < told a (lists (told a (mark_list e)))
  pub best : (m : ℕ) → m < 201 → 0 < told a (lists m) → behind e (told a (mark_list e)) ≤ behind e m
  pub low : 0 < told a (mark_deal e)
  pub high : told a (mark_deal e) ≤ 32000
  pub has : covered a (told a (mark_deal e)) ≡ true

pub record Unmarked (e : Side) (a : List ℕ) : Type 0 where
  pub list : told a (mark_list e) ≡ 0
  pub deal : told a (mark_deal e) ≡ 0

module _ (e : Side) (a : List ℕ) where
  abbrev L : ℕ
  L = told a (mark_list e)

  abbrev D : ℕ
  D = told a (mark_deal e)

  abbrev none : ℕ → Bool
  none m = eqb (told a (lists m)) 0 || leb (behind e L) (behind e m)

  marked_of : (is_best e a && has_deal e a) ≡ true → Marked e a
  unfolding is_best has_deal
  marked_of t =
      let b = first (is_best e a) (has_deal e a) t in
      let h = second (is_best e a) (has_deal e a) t in
      let b2 = second (leb L 200) (ltb 0 (told a (lists L)) && every 201 none) b in
      let h2 = second (leb 1 D) (leb D 32000 && covered a D) h in
      record {
        short = leb-true L 200 (first (leb L 200) (ltb 0 (told a (lists L)) && every 201 none) b);
        some = ltb-true 0 (told a (lists L)) (first (ltb 0 (told a (lists L))) (every 201 none) b2);
        best = λ m l s. not_better m s (every_at none 201 (second (ltb 0 (told a (lists L))) (every 201 none) b2) m l);
        low = leb-true 1 D (first (leb 1 D) (leb D 32000 && covered a D) h);
        high = leb-true D 32000 (first (leb D 32000) (covered a D) h2);
        has = second (leb D 32000) (covered a D) h2;
      }
    where
      not_better : (m : ℕ) → 0 < told a (lists m) → none m ≡ true → behind e L ≤ behind e m
      not_better m s t = leb-true (behind e L) (behind e m) (rw (ne_eqb (told a (lists m)) 0 (λ q. let w : ⊥ = omega arith in w)) at t)

  of_marked : Marked e a → (is_best e a && has_deal e a) ≡ true
  unfolding is_best has_deal
  of_marked k =
      both (both (le-leb L 200 k.short) (both (lt-ltb 0 (told a (lists L)) k.some) (every_by none 201 (λ m l. by_count m l (ℕ_discrete (told a (lists m)) 0)))))
      (both (le-leb 1 D k.low) (both (le-leb D 32000 k.high) k.has))
    where
      by_count : (m : ℕ) → m < 201 → Dec (told a (lists m) ≡ 0) → none m ≡ true
      by_count m l (yes q) = rw (eq-eqb (told a (lists m)) 0 q) refl
      by_count m l (no d) =
          rw (ne_eqb (told a (lists m)) 0 d) (le-leb (behind e L) (behind e m) (k.best m l (omega arith)))

  pub mark_none : good_mark e a ≡ true → wins a ≡ 0 → Unmarked e a
  unfolding good_mark is_absent
  mark_none t z =
      let u : (eqb L 0 && eqb D 0) ≡ true = rw (eq-eqb (wins a) 0 z) at t in
      record { list = eqb-true L 0 (first (eqb L 0) (eqb D 0) u); deal = eqb-true D 0 (second (eqb L 0) (eqb D 0) u) }

  pub mark_some : good_mark e a ≡ true → 0 < wins a → Marked e a
  unfolding good_mark
  mark_some t z = marked_of (rw (ne_eqb (wins a) 0 (λ q. let w : ⊥ = omega arith in w)) at t)

  pub none_good : wins a ≡ 0 → Unmarked e a → good_mark e a ≡ true
  unfolding good_mark is_absent
  none_good z u = rw (eq-eqb (wins a) 0 z) (both (eq-eqb L 0 u.list) (eq-eqb D 0 u.deal))

  pub some_good : 0 < wins a → Marked e a → good_mark e a ≡ true
  unfolding good_mark
  some_good z k = rw (ne_eqb (wins a) 0 (λ q. let w : ⊥ = omega arith in w)) (of_marked k)

pub record IsGood (a : List ℕ) : Type 0 where
  pub long : length a ≡ 716
  pub budget : told a the_budget ≤ 1000000
  pub answered : sum 7 (λ k. told a (answers k)) ≡ deals a
  pub counted : sum 201 (λ m. told a (lists m)) ≡ wins a
  pub marks : (e : Side) → good_mark e a ≡ true
  pub pops : told a all_pops ≤ told a the_budget * deals a

module _ (a : List ℕ) where
  abbrev t1 : Bool
  t1 = eqb (length a) 716

  abbrev t2 : Bool
  t2 = leb (told a the_budget) 1000000

  abbrev t3 : Bool
  t3 = eqb (sum 7 (λ k. told a (answers k))) (deals a)

  abbrev t4 : Bool
  t4 = eqb (sum 201 (λ m. told a (lists m))) (wins a)

  abbrev t7 : Bool
  t7 = leb (told a all_pops) (told a the_budget * deals a)

  abbrev from5 : Bool
  from5 = good_mark shortest a && (good_mark longest a && t7)

  pub good_is : good_sheet a ≡ true → IsGood a
  unfolding good_sheet
  good_is t =
      let u2 = second t1 (t2 && (t3 && (t4 && from5))) t in
      let u3 = second t2 (t3 && (t4 && from5)) u2 in
      let u4 = second t3 (t4 && from5) u3 in
      let u5 = second t4 from5 u4 in
      let u6 = second (good_mark shortest a) (good_mark longest a && t7) u5 in
      record {
        long = eqb-true (length a) 716 (first t1 (t2 && (t3 && (t4 && from5))) t);
        budget = leb-true (told a the_budget) 1000000 (first t2 (t3 && (t4 && from5)) u2);
        answered = eqb-true (sum 7 (λ k. told a (answers k))) (deals a) (first t3 (t4 && from5) u3);
        counted = eqb-true (sum 201 (λ m. told a (lists m))) (wins a) (first t4 from5 u4);
        marks = both_sides (first (good_mark shortest a) (good_mark longest a && t7) u5) (first (good_mark longest a) t7 u6);
        pops = leb-true (told a all_pops) (told a the_budget * deals a) (second (good_mark longest a) t7 u6);
      }
    where
      both_sides : good_mark shortest a ≡ true → good_mark longest a ≡ true → (e : Side) → good_mark e a ≡ true
      both_sides p q shortest = p
      both_sides p q longest = q

  pub is_good : IsGood a → good_sheet a ≡ true
  unfolding good_sheet
  is_good g =
      both (eq-eqb (length a) 716 g.long)
      (both (le-leb (told a the_budget) 1000000 g.budget)
      (both (eq-eqb (sum 7 (λ k. told a (answers k))) (deals a) g.answered)
      (both (eq-eqb (sum 201 (λ m. told a (lists m))) (wins a) g.counted)
      (both (g.marks shortest)
      (both (g.marks longest)
      (le-leb (told a all_pops) (told a the_budget * deals a) g.pops))))))

-- ---- how large the figures of a good sheet are

pub deals_most : (a : List ℕ) → deals a ≤ 32000
unfolding deals
deals_most a = over-count (covered a)

module _ {a : List ℕ} (g : IsGood a) where
  pub answers_most : (k : ℕ) → k < 7 → told a (answers k) ≤ 32000
  answers_most k h = let p = sum_part (λ k. told a (answers k)) 7 k h in let q = g.answered in let m = deals_most a in omega arith

  pub lists_most : (m : ℕ) → m < 201 → told a (lists m) ≤ 32000
  lists_most m h = let p = sum_part (λ m. told a (lists m)) 201 m h in let q = g.counted in let n = answers_most 0 (omega arith) in omega arith

-- ---- a sheet over answered deals is good

-- what judging gives: an answer that is counted, no more pops than the budget, a list of at most 200 moves
pub record Answered (budget : ℕ) (x : Result) : Type 0 where
  pub counted : occurs x.answer answers_counted ≡ 1
  pub afforded : x.pops ≤ budget
  pub short : x.moves ≤ 200

seven : (x : ℕ) → sum 7 (λ k. cond (eqb x (get_or answers_counted k 0)) 1 0) ≡ occurs x answers_counted
unfolding sum occurs
seven x = omega arith

one_length : (t : Bool) (m : ℕ) → m ≤ 200 → sum 201 (λ k. cond (t && eqb m k) 1 0) ≡ cond t 1 0
one_length true m h = sum_one (λ k. cond (eqb m k) 1 0) 201 m (omega arith) (λ k l d. rw (ne_eqb m k (λ q. d (sym q)))) ∙ rw (eq-eqb m m refl) refl
one_length false m h = sum-zero (λ k. 0) 201 (λ k l. refl)

-- a test that counts holds
counts : (a b : Bool) (x : ℕ) → 0 < cond a (cond b x 0) 0 → (a ≡ true) × (b ≡ true)
counts true true x h = (refl, refl)
counts true false x h = absurd (let w : ⊥ = omega arith in w)
counts false b x h = absurd (let w : ⊥ = omega arith in w)

module _ (s : Settings) (r : ℕ → Result) (p : ℕ → Bool) (low : s.budget ≤ 1000000)
    (fine : (i : ℕ) → i < 32000 → p (suc i) ≡ true → Answered s.budget (r (suc i))) where
  abbrev A : List ℕ
  A = sheet_over s r p

  -- an equation of what is at a deal, asked only where p holds
  at_deal : (f g : ℕ → ℕ) → ((i : ℕ) → i < 32000 → p (suc i) ≡ true → f (suc i) ≡ g (suc i)) → over p f ≡ over p g
  at_deal f g h = over_same p p f g (λ i l. by_test i (p (suc i)) refl (h i l))
    where
      by_test : (i : ℕ) (t : Bool) → p (suc i) ≡ t → (p (suc i) ≡ true → f (suc i) ≡ g (suc i)) → cond t (f (suc i)) 0 ≡ cond t (g (suc i)) 0
      by_test i true e k = k e
      by_test i false e k = refl

  pub deals-over : deals (sheet_over s r p) ≡ over p (λ n. 1)
  unfolding deals
  deals-over = over_same (covered A) p (λ n. 1) (λ n. 1) (λ i l. ap (λ (t : Bool). cond t 1 0) (covered_is s r p i l))

  answered-over : sum 7 (λ k. told A (answers k)) ≡ over p (λ n. 1)
  unfolding figure_over
  answered-over =
      sum_same (λ k. told A (answers k)) (λ k. over p (λ n. cond (eqb (r n).answer (get_or answers_counted k 0)) 1 0)) 7 (λ k l. over_tells s r p (answers k) l)
      ∙ over_swap p (λ k n. cond (eqb (r n).answer (get_or answers_counted k 0)) 1 0) 7
      ∙ at_deal (λ n. sum 7 (λ k. cond (eqb (r n).answer (get_or answers_counted k 0)) 1 0)) (λ n. 1)
      (λ i l t. seven (r (suc i)).answer ∙ (fine i l t).counted)

  wins-over : wins A ≡ over p (λ n. cond (won (r n)) 1 0)
  unfolding figure_over
  wins-over = over_tells s r p (answers 0) (omega arith)

  lists_over : (m : ℕ) → m < 201 → told A (lists m) ≡ over p (λ n. cond (won (r n) && eqb (r n).moves m) 1 0)
  unfolding figure_over
  lists_over m l = over_tells s r p (lists m) l

  counted-over : sum 201 (λ m. told A (lists m)) ≡ over p (λ n. cond (won (r n)) 1 0)
  counted-over =
      sum_same (λ m. told A (lists m)) (λ m. over p (λ n. cond (won (r n) && eqb (r n).moves m) 1 0)) 201 lists_over
      ∙ over_swap p (λ m n. cond (won (r n) && eqb (r n).moves m) 1 0) 201
      ∙ at_deal (λ n. sum 201 (λ m. cond (won (r n) && eqb (r n).moves m) 1 0)) (λ n. cond (won (r n)) 1 0)
      (λ i l t. one_length (won (r (suc i))) (r (suc i)).moves (fine i l t).short)

  pops_over : told A all_pops ≤ told A the_budget * deals A
  unfolding figure_over
  pops_over =
      subst (λ (x : ℕ). x ≤ told A the_budget * deals A) (sym (over_tells s r p all_pops tt))
      (subst (λ (x : ℕ). over p (λ n. (r n).pops) ≤ x)
      (over_times p s.budget ∙ ap₂ (λ (x y : ℕ). x * y) (sym (over_tells s r p the_budget tt)) (sym deals-over))
      (over_most p p (λ n. (r n).pops) (λ n. s.budget) (λ i l. by_test i l (p (suc i)) refl)))
    where
      by_test : (i : ℕ) → i < 32000 → (t : Bool) → p (suc i) ≡ t → cond t (r (suc i)).pops 0 ≤ cond t s.budget 0
      by_test i l true e = (fine i l e).afforded
      by_test i l false e = omega arith

  -- ---- its marks

  module _ (e : Side) where
    list_told : told A (mark_list e) ≡ key_list e (best_key e r p)
    unfolding figure_over
    list_told = over_tells s r p (mark_list e) tt

    deal_told : told A (mark_deal e) ≡ key_deal (best_key e r p)
    unfolding figure_over
    deal_told = over_tells s r p (mark_deal e) tt

    -- deal i + 1 has the best list
    module _ (i : ℕ) (l : i < 32000) (a : p (suc i) ≡ true) (b : won (r (suc i)) ≡ true)
        (q : best_key e r p ≡ key_of e (r (suc i)).moves (suc i)) where
      abbrev M : ℕ
      M = (r (suc i)).moves

      is_list : told A (mark_list e) ≡ M
      is_list = list_told ∙ ap (key_list e) q ∙ mark_list_lem e M (suc i) (fine i l a).short (omega arith) (omega arith)

      is_deal : told A (mark_deal e) ≡ suc i
      is_deal = deal_told ∙ ap key_deal q ∙ mark_deal_lem e M (suc i) (fine i l a).short (omega arith) (omega arith)

      counts_here : 0 < told A (lists M)
      counts_here =
          subst (λ (x : ℕ). 0 < x) (sym (lists_over M (let f = (fine i l a).short in omega arith)))
          (let k = over_part p (λ n. cond (won (r n) && eqb (r n).moves M) 1 0) i l in
          let one : ◌≡◌ {A = ℕ} (cond (p (suc i)) (cond (won (r (suc i)) && eqb M M) 1 0) 0) 1 = rw (a, b, eq-eqb M M refl) refl in
          omega arith)

      none_better : (m : ℕ) → m < 201 → 0 < told A (lists m) → behind e M ≤ behind e m
      none_better m h c =
          let o = over_some p (λ n. cond (won (r n) && eqb (r n).moves m) 1 0) (subst (λ (x : ℕ). 0 < x) (lists_over m h) c) in
          let j = o.0 in
          let t = counts (p (suc j)) (won (r (suc j)) && eqb (r (suc j)).moves m) 1 o.2 in
          let w = first (won (r (suc j))) (eqb (r (suc j)).moves m) t.1 in
          let z = ap (behind e) (eqb-true (r (suc j)).moves m (second (won (r (suc j))) (eqb (r (suc j)).moves m) t.1)) in
          let u = best_below e r p j o.1 t.0 w in
          let v = o.1 in
          omega arith

      marked_here : Marked e A
      marked_here =
          record {
            short = subst (λ (x : ℕ). x ≤ 200) (sym is_list) (fine i l a).short;
            some = subst (λ (x : ℕ). 0 < told A (lists x)) (sym is_list) counts_here;
            best = λ m h c. subst (λ (x : ℕ). behind e x ≤ behind e m) (sym is_list) (none_better m h c);
            low = subst (λ (x : ℕ). 0 < x) (sym is_deal) (omega arith);
            high = subst (λ (x : ℕ). x ≤ 32000) (sym is_deal) (omega arith);
            has = ap (covered A) is_deal ∙ covered_is s r p i l ∙ a;
          }

      wins_here : 0 < wins A
      wins_here =
          subst (λ (x : ℕ). 0 < x) (sym wins-over)
          (let k = over_part p (λ n. cond (won (r n)) 1 0) i l in
          let one : ◌≡◌ {A = ℕ} (cond (p (suc i)) (cond (won (r (suc i))) 1 0) 0) 1 = rw (a, b) refl in
          omega arith)

    -- with no key there is no win
    no_wins : best_key e r p ≡ no_key → wins A ≡ 0
    no_wins q = by_count (dec_lt 0 (wins A))
      where
        by_count : Dec (0 < wins A) → wins A ≡ 0
        by_count (no h) = omega arith
        by_count (yes h) =
            let o = over_some p (λ n. cond (won (r n)) 1 0) (subst (λ (x : ℕ). 0 < x) wins-over h) in
            let j = o.0 in
            let t = counts (p (suc j)) (won (r (suc j))) 1 o.2 in
            let u = best_below e r p j o.1 t.0 t.1 in
            let v = o.1 in
            let k = mark_below e (r (suc j)).moves (suc j) (fine j o.1 t.0).short (omega arith) (omega arith) in
            absurd (let w : ⊥ = omega arith in w)

    mark_over : good_mark e A ≡ true
    mark_over = by_case (best_is e r p)
      where
        by_case :
            (best_key e r p ≡ no_key)
            ⊎ ((i : ℕ) × (i < 32000) × (p (suc i) ≡ true) × (won (r (suc i)) ≡ true) × (best_key e r p ≡ key_of e (r (suc i)).moves (suc i)))
            → good_mark e A ≡ true
        by_case (inl q) =
            none_good e A (no_wins q)
            (record { list = list_told ∙ ap (key_list e) q ∙ no_list_lem e; deal = deal_told ∙ ap key_deal q ∙ no_deal e })
        by_case (inr c) =
            some_good e A (wins_here c.0 c.1 c.2 c.3 c.4) (marked_here c.0 c.1 c.2 c.3 c.4)

  is_good_over : IsGood A
  unfolding figure_over sheet_over
  is_good_over =
      record {
        long = words_long (figure_over s r p);
        budget = subst (λ (x : ℕ). x ≤ 1000000) (sym (over_tells s r p the_budget tt)) low;
        answered = answered-over ∙ sym deals-over;
        counted = counted-over ∙ sym wins-over;
        marks = mark_over;
        pops = pops_over;
      }

  -- so a season's sheet is never 47
  pub sheet_good : good_sheet (sheet_over s r p) ≡ true
  sheet_good = is_good A is_good_over
