-- A sheet is good exactly if it breaks no clause of 47.
use mathlib.Core.Path.{◌≡◌, refl, sym, ◌∙◌, subst}
use mathlib.Core.Bool.{Bool, true, false, ◌&&◌}
use mathlib.Core.List.{List}
use mathlib.Core.Logic.{◌⊎◌, inl, inr}
use Prim.Native.Nat.{ℕ, zero, suc, ◌*◌, ◌<◌, ◌≤◌}
use native.Mathlib.Nat.{not-suc-le-zero}
use native.Mathlib.Omega.{arith}
use native.Mathlib.Decide.{ℕ_discrete, dec_lt}
use borrow.Author.Count.{below_more}
use borrow.Author.Tests.{le-leb, leb-true}
use lib.Dec.{leb}
use lib.ListN.{length}
use Rattle.base.specs.Words.{sum}
use Rattle.base.proofs.Words.{true_or_not, both, first, second}
use Rattle.base.proofs.Sums.{sum_part}
use Rattle.intake.specs.Number.{is_number}
use Rattle.sheets.specs.declared.Side.{Side}
use Rattle.sheets.specs.declared.Side.TheVariants.{Shortest as shortest, Longest as longest}
use Rattle.sheets.specs.Figures.{told, the_budget, answers, all_pops, mark_list, mark_deal, lists}
use Rattle.sheets.specs.Over.{over, behind}
use Rattle.sheets.specs.Good.{covered, deals, wins, good_mark, good_sheet}
use Rattle.sheets.proofs.Goodness.{mark_none, mark_some, none_good, some_good, IsGood, good_is, is_good}
use Rattle.demands.specs.BadSheet.{deals_of, Beats, Bad, other_length, dear, answers_off, lengths_off, unwon, no_list, beaten, lacks, overspent}

-- ---- which of two lists is better

not_beaten : (e : Side) (m l : ℕ) → (Beats e m l → ⊥) → behind e l ≤ behind e m
not_beaten shortest m l d = omega arith
not_beaten longest m l d = omega arith

beats_not : (e : Side) (m l : ℕ) → m ≤ 200 → Beats e m l → behind e l ≤ behind e m → ⊥
beats_not shortest m l h b q = omega arith
beats_not longest m l h b q = omega arith

beats_or : (e : Side) (m l : ℕ) → Dec (Beats e m l)
beats_or shortest m l = dec_lt m l
beats_or longest m l = dec_lt l m

number_by : (n : ℕ) → 0 < n → n ≤ 32000 → is_number n ≡ true
unfolding is_number
number_by n p q = both (le-leb 1 n p) (le-leb n 32000 q)

is_number_lem : (n : ℕ) → is_number n ≡ true → (1 ≤ n) × (n ≤ 32000)
unfolding is_number
is_number_lem n t = (leb-true 1 n (first (leb 1 n) (leb n 32000) t), leb-true n 32000 (second (leb 1 n) (leb n 32000) t))

-- some number below n is such, or none is
some_or_none : (P : ℕ → Type 0) → ((k : ℕ) → Dec (P k)) → (n : ℕ) → ((k : ℕ) × (k < n) × P k) ⊎ ((k : ℕ) → k < n → P k → ⊥)
some_or_none P test zero = inr (λ k l p. not-suc-le-zero l)
some_or_none P test (suc n) = by_last (some_or_none P test n) (test n)
  where
    by_last : ((k : ℕ) × (k < n) × P k) ⊎ ((k : ℕ) → k < n → P k → ⊥) → Dec (P n) → ((k : ℕ) × (k < suc n) × P k) ⊎ ((k : ℕ) → k < suc n → P k → ⊥)
    by_last (inl f) d = let l = f.1 in inl (f.0, omega arith, f.2)
    by_last (inr none) (yes p) = inl (n, omega arith, p)
    by_last (inr none) (no d) = inr (λ k l. below_more (λ (j : ℕ). P j → ⊥) n none d k (omega arith))

module _ (w : List ℕ) where
  same_deals : deals_of w ≡ deals w
  unfolding deals over
  same_deals = refl

  -- ---- a good sheet breaks no clause

  keeps-all : IsGood w → Bad w → ⊥
  keeps-all g (other_length d) = d g.long
  keeps-all g (dear h) = let b = g.budget in omega arith
  keeps-all g (answers_off d) = d (g.answered ∙ sym same_deals)
  keeps-all g (lengths_off d) = d g.counted
  keeps-all g (unwon e z (inl h)) = let u = (mark_none e w (g.marks e) z).list in omega arith
  keeps-all g (unwon e z (inr h)) = let u = (mark_none e w (g.marks e) z).deal in omega arith
  keeps-all g (no_list e h (inl l)) = let k = (mark_some e w (g.marks e) h).short in omega arith
  keeps-all g (no_list e h (inr z)) = let k = (mark_some e w (g.marks e) h).some in omega arith
  keeps-all g (beaten e m h c b) =
      let p = sum_part (λ m. told w (lists m)) 201 m (omega arith) in
      let q = g.counted in
      let k = mark_some e w (g.marks e) (omega arith) in
      beats_not e m (told w (mark_list e)) h b (k.best m (omega arith) c)
  keeps-all g (lacks e h t) =
      let k = mark_some e w (g.marks e) h in
      true_or_not (is_number (told w (mark_deal e)) && covered w (told w (mark_deal e))) (both (number_by (told w (mark_deal e)) k.low k.high) k.has) t
  keeps-all g (overspent h) =
      let p = g.pops in
      let q : told w the_budget * deals w < told w all_pops = subst (λ (d : ℕ). told w the_budget * d < told w all_pops) same_deals h in
      omega arith

  pub good_not_bad : good_sheet w ≡ true → Bad w → ⊥
  good_not_bad t = keeps-all (good_is w t)

  -- ---- a sheet that breaks none is good

  abbrev Better : Side → ℕ → Type 0
  Better e m = (0 < told w (lists m)) × Beats e m (told w (mark_list e))

  better_or : (e : Side) (m : ℕ) → Dec (Better e m)
  better_or e m = by_both (dec_lt 0 (told w (lists m))) (beats_or e m (told w (mark_list e)))
    where
      by_both : Dec (0 < told w (lists m)) → Dec (Beats e m (told w (mark_list e))) → Dec (Better e m)
      by_both (yes p) (yes q) = yes (p, q)
      by_both (yes p) (no d) = no (λ b. d b.1)
      by_both (no d) q = no (λ b. d b.0)

  mark_or : (e : Side) → (good_mark e w ≡ true) ⊎ Bad w
  mark_or e = by_wins (dec_lt 0 (wins w))
    where
      unmarked : (wins w ≡ 0) → Dec (told w (mark_list e) ≡ 0) → Dec (told w (mark_deal e) ≡ 0) → (good_mark e w ≡ true) ⊎ Bad w
      unmarked z (yes p) (yes q) = inl (none_good e w z (record { list = p; deal = q }))
      unmarked z (no d) q = inr (unwon e z (inl (omega arith)))
      unmarked z (yes p) (no d) = inr (unwon e z (inr (omega arith)))

      marked : 0 < wins w → Dec (200 < told w (mark_list e)) → Dec (told w (lists (told w (mark_list e))) ≡ 0)
          → ((m : ℕ) × (m < 201) × Better e m) ⊎ ((m : ℕ) → m < 201 → Better e m → ⊥)
          → (t : Bool) → (is_number (told w (mark_deal e)) && covered w (told w (mark_deal e))) ≡ t → (good_mark e w ≡ true) ⊎ Bad w
      marked h (yes l) z s t q = inr (no_list e h (inl l))
      marked h (no l) (yes z) s t q = inr (no_list e h (inr z))
      marked h (no l) (no z) (inl f) t q = let u = f.1 in inr (beaten e f.0 (omega arith) f.2.0 f.2.1)
      marked h (no l) (no z) (inr none) false q = inr (lacks e h q)
      marked h (no l) (no z) (inr none) true q =
          let n = is_number_lem (told w (mark_deal e)) (first (is_number (told w (mark_deal e))) (covered w (told w (mark_deal e))) q) in
          inl (some_good e w h
          (record {
            short = omega arith;
            some = omega arith;
            best = λ m u c. not_beaten e m (told w (mark_list e)) (λ b. none m u (c, b));
            low = n.0;
            high = n.1;
            has = second (is_number (told w (mark_deal e))) (covered w (told w (mark_deal e))) q;
          }))

      by_wins : Dec (0 < wins w) → (good_mark e w ≡ true) ⊎ Bad w
      by_wins (no d) = unmarked (omega arith) (ℕ_discrete (told w (mark_list e)) 0) (ℕ_discrete (told w (mark_deal e)) 0)
      by_wins (yes h) =
          marked h (dec_lt 200 (told w (mark_list e))) (ℕ_discrete (told w (lists (told w (mark_list e)))) 0) (some_or_none (Better e) (better_or e) 201)
          (is_number (told w (mark_deal e)) && covered w (told w (mark_deal e))) refl

  good_or : IsGood w ⊎ Bad w
  good_or =
      by_clause (ℕ_discrete (length w) 716) (dec_lt 1000000 (told w the_budget)) (ℕ_discrete (sum 7 (λ k. told w (answers k))) (deals_of w))
      (ℕ_discrete (sum 201 (λ m. told w (lists m))) (wins w)) (mark_or shortest) (mark_or longest) (dec_lt (told w the_budget * deals_of w) (told w all_pops))
    where
      each : good_mark shortest w ≡ true → good_mark longest w ≡ true → (e : Side) → good_mark e w ≡ true
      each p q shortest = p
      each p q longest = q

      by_clause : Dec (length w ≡ 716) → Dec (1000000 < told w the_budget) → Dec (sum 7 (λ k. told w (answers k)) ≡ deals_of w)
          → Dec (sum 201 (λ m. told w (lists m)) ≡ wins w) → (good_mark shortest w ≡ true) ⊎ Bad w → (good_mark longest w ≡ true) ⊎ Bad w
          → Dec (told w the_budget * deals_of w < told w all_pops) → IsGood w ⊎ Bad w
      by_clause (no d) b s l p q o = inr (other_length d)
      by_clause (yes n) (yes h) s l p q o = inr (dear h)
      by_clause (yes n) (no b) (no d) l p q o = inr (answers_off d)
      by_clause (yes n) (no b) (yes s) (no d) p q o = inr (lengths_off d)
      by_clause (yes n) (no b) (yes s) (yes l) (inr x) q o = inr x
      by_clause (yes n) (no b) (yes s) (yes l) (inl p) (inr x) o = inr x
      by_clause (yes n) (no b) (yes s) (yes l) (inl p) (inl q) (yes h) = inr (overspent h)
      by_clause (yes n) (no b) (yes s) (yes l) (inl p) (inl q) (no o) =
          inl
          (record {
            long = n;
            budget = omega arith;
            answered = s ∙ same_deals;
            counted = l;
            marks = each p q;
            pops = subst (λ (d : ℕ). told w all_pops ≤ told w the_budget * d) same_deals (omega arith);
          })

  pub not_bad_good : (Bad w → ⊥) → good_sheet w ≡ true
  not_bad_good d = by_either good_or
    where
      by_either : IsGood w ⊎ Bad w → good_sheet w ≡ true
      by_either (inl g) = is_good w g
      by_either (inr b) = absurd (d b)

  pub not_good_bad : good_sheet w ≡ false → Bad w
  not_good_bad f = by_either good_or
    where
      by_either : IsGood w ⊎ Bad w → Bad w
      by_either (inl g) = true_or_not (good_sheet w) (is_good w g) f
      by_either (inr b) = b
