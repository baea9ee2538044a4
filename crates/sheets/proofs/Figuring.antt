-- All figures of two sheets added, step by step.
use mathlib.Core.Path.{◌≡◌, refl, sym, ap, ap₂, ◌∙◌, subst}
use mathlib.Core.Bool.{Bool, true, false, cond}
use mathlib.Core.List.{List}
use Prim.Native.Nat.{ℕ, ◌+◌, ◌-◌, ◌^◌, ◌<◌, ◌≤◌}
use native.Mathlib.Omega.{arith}
use native.Mathlib.Decide.{dec_lt}
use lib.Dec.{eqb, ltb}
use lib.ListN.{length, get_or, set, length-set}
use lib.Seq.{get_or-set_same, get_or-set_other}
use Rattle.sheets.specs.declared.Side.{Side}
use Rattle.sheets.specs.declared.Side.TheVariants.{Shortest as shortest, Longest as longest}
use Rattle.sheets.specs.Figures.{Figure, the_budget, the_capacity, the_flag, answers, all_pops, mark_list, mark_deal, lists, covers, place_of, told}
use Rattle.sheets.specs.Over.{no_key, key_of}
use Rattle.sheets.specs.Good.{wins}
use Rattle.sheets.specs.Adding.{flag_of, apart, key_in, better, added_figure, added}
use Rattle.sheets.specs.Promises.{Addable, Roomy, Summed, Small, mark_set, mark_when, mark_chosen}
use Rattle.sheets.proofs.Reading.{Stands, same_words, told_at}
use Rattle.sheets.proofs.Bits.{joined_below}
use Rattle.sheets.proofs.Covers.{apart_bits}
use Rattle.sheets.proofs.Goodness.{mark_none, mark_some, IsGood, good_is, deals_most, answers_most, lists_most}
use Rattle.sheets.proofs.Sums.{added_tells, added_long}
use Rattle.sheets.proofs.Deciding.{pops_fit}

-- ---- a mark that is set, or not

places : (e : Side) → (place_of (mark_list e) ≡ place_of (mark_deal e) → ⊥) × (place_of (mark_list e) < 15) × (place_of (mark_deal e) < 15)
places shortest = ((λ q. let w : ⊥ = omega arith in w), omega arith, omega arith)
places longest = ((λ q. let w : ⊥ = omega arith in w), omega arith, omega arith)

module _ (e : Side) (a : List ℕ) (m n : ℕ) (long : length a ≡ 716) where
  set_at : (i : ℕ) → (i ≡ place_of (mark_list e) → ⊥) → (i ≡ place_of (mark_deal e) → ⊥) → get_or (mark_set e a m n) i 0 ≡ get_or a i 0
  set_at i p q =
      get_or-set_other (set a (place_of (mark_list e)) m) (place_of (mark_deal e)) i n 0 q ∙ get_or-set_other a (place_of (mark_list e)) i m 0 p

  pub when_long : (t : Bool) → length (mark_when e t a m n) ≡ 716
  when_long true =
      length-set (set a (place_of (mark_list e)) m) (place_of (mark_deal e)) n ∙ length-set a (place_of (mark_list e)) m ∙ long
  when_long false = long

  pub when_at : (t : Bool) (i : ℕ) → (i ≡ place_of (mark_list e) → ⊥) → (i ≡ place_of (mark_deal e) → ⊥) → get_or (mark_when e t a m n) i 0 ≡ get_or a i 0
  when_at true i p q = set_at i p q
  when_at false i p q = refl

  pub when_list : (t : Bool) → told (mark_when e t a m n) (mark_list e) ≡ cond t m (told a (mark_list e))
  unfolding told
  when_list true =
      get_or-set_other (set a (place_of (mark_list e)) m) (place_of (mark_deal e)) (place_of (mark_list e)) n 0 (places e).0
      ∙ get_or-set_same a (place_of (mark_list e)) m 0 (let p = (places e).1 in omega arith)
  when_list false = refl

  pub when_deal : (t : Bool) → told (mark_when e t a m n) (mark_deal e) ≡ cond t n (told a (mark_deal e))
  unfolding told
  when_deal true =
      get_or-set_same (set a (place_of (mark_list e)) m) (place_of (mark_deal e)) n 0
      (let p = (places e).2 in let l = length-set a (place_of (mark_list e)) m in omega arith)
  when_deal false = refl

-- the key is the mark's alone
pub key_same : (e : Side) (a b : List ℕ) → told a (mark_list e) ≡ told b (mark_list e) → told a (mark_deal e) ≡ told b (mark_deal e) → key_in e a ≡ key_in e b
unfolding key_in
key_same e a b p q = ap₂ (λ (m n : ℕ). cond (eqb n 0) no_key (key_of e m n)) p q

pub small_same : (e : Side) (a X : List ℕ) → Small e a → length X ≡ 716 → told X (mark_list e) ≡ told a (mark_list e) → told X (mark_deal e) ≡ told a (mark_deal e) → Small e X
small_same e a X s l p q =
    record { long = l; list = subst (λ (x : ℕ). x ≤ 200) (sym p) s.list; deal = subst (λ (x : ℕ). x ≤ 32000) (sym q) s.deal }

pub small_good : (e : Side) (a : List ℕ) → IsGood a → Small e a
small_good e a g = by_wins (dec_lt 0 (wins a))
  where
    by_wins : Dec (0 < wins a) → Small e a
    by_wins (yes h) = let k = mark_some e a (g.marks e) h in record { long = g.long; list = k.short; deal = k.high }
    by_wins (no h) =
        let u = mark_none e a (g.marks e) (omega arith) in
        let p = u.list in
        let q = u.deal in
        record { long = g.long; list = omega arith; deal = omega arith }

-- two words that share no bit
words_fit : (a b : List ℕ) → apart a b ≡ true → (w : ℕ) → w < 500 → get_or a (216 + w) 0 < 2 ^ 64 → get_or b (216 + w) 0 < 2 ^ 64
    → get_or a (216 + w) 0 + get_or b (216 + w) 0 < 2 ^ 64
unfolding told
words_fit a b free w h p q =
    joined_below 64 (get_or a (216 + w) 0) (get_or b (216 + w) 0) p q (λ j l. apart_bits a b free w j h l)

-- ---- the steps

module _ (a b : List ℕ) (ok : Addable a b) where
  ga : IsGood a
  ga = good_is a ok.one

  gb : IsGood b
  gb = good_is b ok.other

  module _ (f : ℕ) (flagged : f ≡ flag_of (get_or a 2 0)) where
    abbrev X1 : List ℕ
    X1 = set a 2 f

    at_1 : (i : ℕ) → (i ≡ 2 → ⊥) → get_or X1 i 0 ≡ get_or a i 0
    at_1 i d = get_or-set_other a 2 i f 0 d

    long_1 : length X1 ≡ 716
    long_1 = length-set a 2 f ∙ ga.long

    pops_most : {c : List ℕ} → IsGood c → told c all_pops ≤ 32000000000
    pops_most {c} g = let p = g.pops in let q = pops_fit _ _ g.budget (deals_most c) in omega arith

    -- answers and pops
    pub room_1 : Roomy (set a 2 f) b 3 11
    room_1 =
        record {
          rising = omega arith;
          mine = let l = long_1 in omega arith;
          yours = let l = gb.long in omega arith;
          fits = λ i l h. subst (λ (x : ℕ). x + get_or b i 0 < 2 ^ 64) (sym (at_1 i (λ q. let w : ⊥ = omega arith in w))) (small i l (dec_lt i 10) h);
        }
      where
        answer_below : {c : List ℕ} → IsGood c → (i : ℕ) → 3 ≤ i → i < 10 → get_or c i 0 ≤ 32000
        answer_below {c} g i l h =
            subst (λ (x : ℕ). get_or c x 0 ≤ 32000) (let q : 3 + (i - 3) ≡ i = omega arith in q)
            (subst (λ (x : ℕ). x ≤ 32000) (told_at c (answers (i - 3))) (answers_most g (i - 3) (omega arith)))

        pops_below : {c : List ℕ} → IsGood c → (i : ℕ) → i ≡ 10 → get_or c i 0 ≤ 32000000000
        pops_below {c} g i e = subst (λ (x : ℕ). get_or c x 0 ≤ 32000000000) (sym e) (subst (λ (x : ℕ). x ≤ 32000000000) (told_at c all_pops) (pops_most g))

        small : (i : ℕ) → 3 ≤ i → Dec (i < 10) → i < 11 → get_or a i 0 + get_or b i 0 < 2 ^ 64
        small i l (yes h) k = let p = answer_below ga i l h in let q = answer_below gb i l h in omega arith
        small i l (no h) k =
            let p = pops_below ga i (omega arith) in
            let q = pops_below gb i (omega arith) in
            omega arith

    module _ {X2 : List ℕ} (s2 : Summed (set a 2 f) b 3 11 X2) where
      at_2 : (i : ℕ) → 11 ≤ i → get_or X2 i 0 ≡ get_or a i 0
      at_2 i l = s2.above i l ∙ at_1 i (λ q. let w : ⊥ = omega arith in w)

      long_2 : length X2 ≡ 716
      long_2 = s2.long ∙ long_1

      -- lengths and bits
      pub room_2 : ((i : ℕ) → get_or a i 0 < 2 ^ 64) → ((i : ℕ) → get_or b i 0 < 2 ^ 64) → Roomy X2 b 15 716
      room_2 wa wb =
          record {
            rising = omega arith;
            mine = let l = long_2 in omega arith;
            yours = let l = gb.long in omega arith;
            fits = λ i l h. subst (λ (x : ℕ). x + get_or b i 0 < 2 ^ 64) (sym (at_2 i (omega arith))) (small i l (dec_lt i 216) h);
          }
        where
          list_below : {c : List ℕ} → IsGood c → (i : ℕ) → 15 ≤ i → i < 216 → get_or c i 0 ≤ 32000
          list_below {c} g i l h =
              subst (λ (x : ℕ). get_or c x 0 ≤ 32000) (let q : 15 + (i - 15) ≡ i = omega arith in q)
              (subst (λ (x : ℕ). x ≤ 32000) (told_at c (lists (i - 15))) (lists_most g (i - 15) (omega arith)))

          joined : (w : ℕ) → w < 500 → get_or a (216 + w) 0 + get_or b (216 + w) 0 < 2 ^ 64
          joined w h = words_fit a b ok.free w h (wa (216 + w)) (wb (216 + w))

          small : (i : ℕ) → 15 ≤ i → Dec (i < 216) → i < 716 → get_or a i 0 + get_or b i 0 < 2 ^ 64
          small i l (yes h) k = let p = list_below ga i l h in let q = list_below gb i l h in omega arith
          small i l (no h) k =
              subst (λ (x : ℕ). get_or a x 0 + get_or b x 0 < 2 ^ 64) (let q : 216 + (i - 216) ≡ i = omega arith in q) (joined (i - 216) (omega arith))

      module _ {X3 : List ℕ} (s3 : Summed X2 b 15 716 X3) where
        abbrev X4 : List ℕ
        X4 = mark_chosen shortest X3 b

        abbrev X5 : List ℕ
        X5 = mark_chosen longest X4 b

        long_3 : length X3 ≡ 716
        long_3 = s3.long ∙ long_2

        long_4 : length X4 ≡ 716
        long_4 = when_long shortest X3 (told b (mark_list shortest)) (told b (mark_deal shortest)) long_3 (better shortest X3 b)

        long_5 : length X5 ≡ 716
        long_5 = when_long longest X4 (told b (mark_list longest)) (told b (mark_deal longest)) long_4 (better longest X4 b)

        -- a mark's words in the third step are the first sheet's
        mark_3 : (i : ℕ) → 11 ≤ i → i < 15 → get_or X3 i 0 ≡ get_or a i 0
        mark_3 i l h = s3.below i h ∙ at_2 i l

        -- and the later steps change the marks alone
        past_4 : (i : ℕ) → (i ≡ 11 → ⊥) → (i ≡ 12 → ⊥) → get_or X4 i 0 ≡ get_or X3 i 0
        past_4 i p q = when_at shortest X3 (told b (mark_list shortest)) (told b (mark_deal shortest)) long_3 (better shortest X3 b) i p q

        past_5 : (i : ℕ) → (i ≡ 13 → ⊥) → (i ≡ 14 → ⊥) → get_or X5 i 0 ≡ get_or X4 i 0
        past_5 i p q = when_at longest X4 (told b (mark_list longest)) (told b (mark_deal longest)) long_4 (better longest X4 b) i p q

        apart_from : (i : ℕ) → (i < 11) → get_or X5 i 0 ≡ get_or X3 i 0
        apart_from i h =
            past_5 i (λ q. let w : ⊥ = omega arith in w) (λ q. let w : ⊥ = omega arith in w)
            ∙ past_4 i (λ q. let w : ⊥ = omega arith in w) (λ q. let w : ⊥ = omega arith in w)

        beyond : (i : ℕ) → 15 ≤ i → get_or X5 i 0 ≡ get_or X3 i 0
        beyond i h =
            past_5 i (λ q. let w : ⊥ = omega arith in w) (λ q. let w : ⊥ = omega arith in w)
            ∙ past_4 i (λ q. let w : ⊥ = omega arith in w) (λ q. let w : ⊥ = omega arith in w)

        list_3 : (e : Side) → told X3 (mark_list e) ≡ told a (mark_list e)
        unfolding told
        list_3 shortest = mark_3 11 (omega arith) (omega arith)
        list_3 longest = mark_3 13 (omega arith) (omega arith)

        deal_3 : (e : Side) → told X3 (mark_deal e) ≡ told a (mark_deal e)
        unfolding told
        deal_3 shortest = mark_3 12 (omega arith) (omega arith)
        deal_3 longest = mark_3 14 (omega arith) (omega arith)

        list_4 : told X4 (mark_list longest) ≡ told a (mark_list longest)
        unfolding told
        list_4 = past_4 13 (λ q. let w : ⊥ = omega arith in w) (λ q. let w : ⊥ = omega arith in w) ∙ mark_3 13 (omega arith) (omega arith)

        deal_4 : told X4 (mark_deal longest) ≡ told a (mark_deal longest)
        unfolding told
        deal_4 = past_4 14 (λ q. let w : ⊥ = omega arith in w) (λ q. let w : ⊥ = omega arith in w) ∙ mark_3 14 (omega arith) (omega arith)

        pub small_3 : Small shortest X3
        small_3 = small_same shortest a X3 (small_good shortest a ga) long_3 (list_3 shortest) (deal_3 shortest)

        pub small_4 : Small longest (mark_chosen shortest X3 b)
        small_4 = small_same longest a X4 (small_good longest a ga) long_4 list_4 deal_4

        -- which is better is asked of the first sheet's marks
        asked_3 : better shortest X3 b ≡ better shortest a b
        asked_3 = ap (λ (x : ℕ). ltb (key_in shortest b) x) (key_same shortest X3 a (list_3 shortest) (deal_3 shortest))

        asked_4 : better longest X4 b ≡ better longest a b
        asked_4 = ap (λ (x : ℕ). ltb (key_in longest b) x) (key_same longest X4 a list_4 deal_4)

        last : (g : Figure) → Stands g → told X5 g ≡ added_figure a b g
        unfolding told added_figure
        last the_budget h = apart_from 0 (omega arith) ∙ s3.below 0 (omega arith) ∙ s2.below 0 (omega arith) ∙ at_1 0 (λ q. let w : ⊥ = omega arith in w)
        last the_capacity h = apart_from 1 (omega arith) ∙ s3.below 1 (omega arith) ∙ s2.below 1 (omega arith) ∙ at_1 1 (λ q. let w : ⊥ = omega arith in w)
        last the_flag h =
            apart_from 2 (omega arith) ∙ s3.below 2 (omega arith) ∙ s2.below 2 (omega arith)
            ∙ get_or-set_same a 2 f 0 (let l = ga.long in omega arith) ∙ flagged
        last (answers k) h =
            apart_from (3 + k) (omega arith) ∙ s3.below (3 + k) (omega arith) ∙ s2.sums (3 + k) (omega arith) (omega arith)
            ∙ ap (λ (x : ℕ). x + get_or b (3 + k) 0) (at_1 (3 + k) (λ q. let w : ⊥ = omega arith in w))
        last all_pops h =
            apart_from 10 (omega arith) ∙ s3.below 10 (omega arith) ∙ s2.sums 10 (omega arith) (omega arith)
            ∙ ap (λ (x : ℕ). x + get_or b 10 0) (at_1 10 (λ q. let w : ⊥ = omega arith in w))
        last (mark_list shortest) h =
            past_5 11 (λ q. let w : ⊥ = omega arith in w) (λ q. let w : ⊥ = omega arith in w)
            ∙ when_list shortest X3 (told b (mark_list shortest)) (told b (mark_deal shortest)) long_3 (better shortest X3 b)
            ∙ ap₂ (λ (t : Bool) (x : ℕ). cond t (told b (mark_list shortest)) x) asked_3 (list_3 shortest)
        last (mark_list longest) h =
            when_list longest X4 (told b (mark_list longest)) (told b (mark_deal longest)) long_4 (better longest X4 b)
            ∙ ap₂ (λ (t : Bool) (x : ℕ). cond t (told b (mark_list longest)) x) asked_4 list_4
        last (mark_deal shortest) h =
            past_5 12 (λ q. let w : ⊥ = omega arith in w) (λ q. let w : ⊥ = omega arith in w)
            ∙ when_deal shortest X3 (told b (mark_list shortest)) (told b (mark_deal shortest)) long_3 (better shortest X3 b)
            ∙ ap₂ (λ (t : Bool) (x : ℕ). cond t (told b (mark_deal shortest)) x) asked_3 (deal_3 shortest)
        last (mark_deal longest) h =
            when_deal longest X4 (told b (mark_list longest)) (told b (mark_deal longest)) long_4 (better longest X4 b)
            ∙ ap₂ (λ (t : Bool) (x : ℕ). cond t (told b (mark_deal longest)) x) asked_4 deal_4
        last (lists m) h =
            beyond (15 + m) (omega arith) ∙ s3.sums (15 + m) (omega arith) (omega arith)
            ∙ ap (λ (x : ℕ). x + get_or b (15 + m) 0) (at_2 (15 + m) (omega arith))
        last (covers w) h =
            beyond (216 + w) (omega arith) ∙ s3.sums (216 + w) (omega arith) (omega arith)
            ∙ ap (λ (x : ℕ). x + get_or b (216 + w) 0) (at_2 (216 + w) (omega arith))

        pub all-added : mark_chosen longest (mark_chosen shortest X3 b) b ≡ added a b
        all-added = same_words X5 (added a b) long_5 (added_long a b) (λ g h. last g h ∙ sym (added_tells a b g h))
