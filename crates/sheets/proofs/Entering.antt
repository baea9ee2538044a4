-- A sheet started, and one deal's result entered, step by step.
use mathlib.Core.Path.{◌≡◌, refl, sym, ap, ap₂, ◌∙◌, subst}
use mathlib.Core.Bool.{Bool, true, false, cond}
use mathlib.Core.List.{List}
use Prim.Native.Nat.{ℕ, ◌+◌, ◌*◌, ◌-◌, ◌/◌, ◌%◌, ◌^◌, ◌<◌, ◌≤◌}
use native.Mathlib.Omega.{arith}
use native.Mathlib.Decide.{ℕ_discrete, dec_lt}
use borrow.Author.Tests.{eq-eqb, ne_eqb, eqb-true}
use lib.Dec.{eqb, ltb}
use lib.ListN.{length, get_or, set, length-set}
use lib.Seq.{get_or-set_same, get_or-set_other}
use Rattle.base.specs.Words.{every, occurs}
use Rattle.base.specs.Blank.{blank}
use Rattle.base.proofs.Words.{every_at, true_or_not}
use Rattle.base.proofs.Clearing.{blank_long, blank_reads}
use Rattle.board.specs.Inner.{bit_at}
use Rattle.board.proofs.Bits.{bit_small, bit_word, bit_fits}
use Rattle.sheets.specs.declared.Side.{Side}
use Rattle.sheets.specs.declared.Side.TheVariants.{Shortest as shortest, Longest as longest}
use Rattle.sheets.specs.Figures.{answers_counted, Figure, the_budget, the_capacity, the_flag, answers, all_pops, mark_list, mark_deal, lists, covers, told}
use Rattle.sheets.specs.Over.{Settings, Result, won, key_of, no_figure, zero_sheet}
use Rattle.sheets.specs.Good.{covered}
use Rattle.sheets.specs.Adding.{key_in}
use Rattle.sheets.specs.Noted.{noted_figure, noted}
use Rattle.sheets.specs.Promises.{Small, mark_entered, Enterable, Raised, WinNoted}
use Rattle.sheets.proofs.Reading.{Stands, same_words, words_tell, words_long, told_at}
use Rattle.sheets.proofs.Goodness.{IsGood, good_is, deals_most, answers_most, lists_most}
use Rattle.sheets.proofs.Deciding.{pops_fit}
use Rattle.sheets.proofs.Figuring.{when_long, when_at, when_list, when_deal, key_same, small_same, small_good}

-- ---- a sheet with no deal

module _ (s : Settings) (a B : List ℕ) (w : ℕ) (long : length a ≡ 716) (clear : B ≡ blank a) (flagged : w ≡ cond s.partial 1 0) where
  abbrev C1 : List ℕ
  C1 = set B 0 s.budget

  abbrev C2 : List ℕ
  C2 = set C1 1 s.capacity

  abbrev C3 : List ℕ
  C3 = set C2 2 w

  long_0 : length B ≡ 716
  long_0 = ap length clear ∙ blank_long a ∙ long

  long_1 : length C1 ≡ 716
  long_1 = length-set B 0 s.budget ∙ long_0

  long_2 : length C2 ≡ 716
  long_2 = length-set C1 1 s.capacity ∙ long_1

  zero_at : (i : ℕ) → 3 ≤ i → get_or C3 i 0 ≡ 0
  zero_at i h =
      get_or-set_other C2 2 i w 0 (λ q. let w : ⊥ = omega arith in w)
      ∙ get_or-set_other C1 1 i s.capacity 0 (λ q. let w : ⊥ = omega arith in w)
      ∙ get_or-set_other B 0 i s.budget 0 (λ q. let w : ⊥ = omega arith in w)
      ∙ ap (λ (l : List ℕ). get_or l i 0) clear ∙ blank_reads a i

  started_at : (g : Figure) → Stands g → told C3 g ≡ no_figure s g
  unfolding told no_figure
  started_at the_budget h =
      get_or-set_other C2 2 0 w 0 (λ q. let w : ⊥ = omega arith in w)
      ∙ get_or-set_other C1 1 0 s.capacity 0 (λ q. let w : ⊥ = omega arith in w)
      ∙ get_or-set_same B 0 s.budget 0 (let l = long_0 in omega arith)
  started_at the_capacity h =
      get_or-set_other C2 2 1 w 0 (λ q. let w : ⊥ = omega arith in w) ∙ get_or-set_same C1 1 s.capacity 0 (let l = long_1 in omega arith)
  started_at the_flag h = get_or-set_same C2 2 w 0 (let l = long_2 in omega arith) ∙ flagged
  started_at (answers k) h = zero_at (3 + k) (omega arith)
  started_at all_pops h = zero_at 10 (omega arith)
  started_at (mark_list shortest) h = zero_at 11 (omega arith)
  started_at (mark_list longest) h = zero_at 13 (omega arith)
  started_at (mark_deal shortest) h = zero_at 12 (omega arith)
  started_at (mark_deal longest) h = zero_at 14 (omega arith)
  started_at (lists m) h = zero_at (15 + m) (omega arith)
  started_at (covers v) h = zero_at (216 + v) (omega arith)

  pub started : set (set (set B 0 s.budget) 1 s.capacity) 2 w ≡ zero_sheet s
  unfolding zero_sheet
  started =
      same_words C3 (zero_sheet s) (length-set C2 2 w ∙ long_2) (words_long (no_figure s))
      (λ g h. started_at g h ∙ sym (words_tell (no_figure s) g h))

-- ---- a word raised

pub raised : (a : List ℕ) (at by : ℕ) → at < length a → Raised a at by (set a at (get_or a at 0 + by))
raised a at by h =
    record {
      long = length-set a at (get_or a at 0 + by);
      here = get_or-set_same a at (get_or a at 0 + by) 0 h;
      others = λ i d. get_or-set_other a at i (get_or a at 0 + by) 0 d;
    }

-- ---- the place of an answer

below_six : (x : ℕ) → occurs x answers_counted ≡ 1 → (x ≡ 23 → ⊥) → x < 6
unfolding occurs
below_six x o d = by_order (dec_lt x 6)
  where
    by_order : Dec (x < 6) → x < 6
    by_order (yes h) = h
    by_order (no h) =
        let z : occurs x answers_counted ≡ 0 =
        rw (
          ne_eqb x 0 (λ q. let w : ⊥ = omega arith in w),
          ne_eqb x 1 (λ q. let w : ⊥ = omega arith in w),
          ne_eqb x 2 (λ q. let w : ⊥ = omega arith in w),
          ne_eqb x 3 (λ q. let w : ⊥ = omega arith in w),
          ne_eqb x 4 (λ q. let w : ⊥ = omega arith in w),
          ne_eqb x 5 (λ q. let w : ⊥ = omega arith in w),
          ne_eqb x 23 d,
        ) refl in
        absurd (let w : ⊥ = omega arith in w)

in_place : every 6 (λ r. eqb (get_or answers_counted r 0) r) ≡ true
unfolding every
in_place = refl

pub answer_low : (x r : ℕ) → occurs x answers_counted ≡ 1 → (x ≡ 23 → ⊥) → r ≡ x → (r < 7) × (get_or answers_counted r 0 ≡ x)
answer_low x r o d e =
    let h = below_six x o d in
    (omega arith, eqb-true (get_or answers_counted r 0) r (every_at (λ r. eqb (get_or answers_counted r 0) r) 6 in_place r (omega arith)) ∙ e)

-- no answer has two places
single : every 7 (λ r. every 7 (λ k. eqb (cond (eqb (get_or answers_counted r 0) (get_or answers_counted k 0)) 1 0) (cond (eqb k r) 1 0))) ≡ true
unfolding every
single = refl

answer_place : (x r k : ℕ) → r < 7 → k < 7 → get_or answers_counted r 0 ≡ x
    → ◌≡◌ {A = ℕ} (cond (eqb x (get_or answers_counted k 0)) 1 0) (cond (eqb k r) 1 0)
answer_place x r k h l e =
    ap (λ (y : ℕ). cond (eqb y (get_or answers_counted k 0)) 1 0) (sym e)
    ∙ eqb-true (cond (eqb (get_or answers_counted r 0) (get_or answers_counted k 0)) 1 0) (cond (eqb k r) 1 0)
    (every_at (λ k. eqb (cond (eqb (get_or answers_counted r 0) (get_or answers_counted k 0)) 1 0) (cond (eqb k r) 1 0)) 7
    (every_at (λ r. every 7 (λ k. eqb (cond (eqb (get_or answers_counted r 0) (get_or answers_counted k 0)) 1 0) (cond (eqb k r) 1 0))) 7 single r h) k l)

-- ---- a win

module _ {a X1 : List ℕ} (m n : ℕ) (short : m ≤ 200) (ss : Small shortest a) (sl : Small longest a) (r : Raised a (15 + m) 1 X1) where
  abbrev X2 : List ℕ
  X2 = mark_entered shortest X1 m n

  abbrev X3 : List ℕ
  X3 = mark_entered longest X2 m n

  win_1 : length X1 ≡ 716
  win_1 = r.long ∙ ss.long

  win_2 : length X2 ≡ 716
  win_2 = when_long shortest X1 m n win_1 (ltb (key_of shortest m n) (key_in shortest X1))

  win_3 : length X3 ≡ 716
  win_3 = when_long longest X2 m n win_2 (ltb (key_of longest m n) (key_in longest X2))

  near_1 : (i : ℕ) → i < 15 → get_or X1 i 0 ≡ get_or a i 0
  near_1 i h = r.others i (λ q. let w : ⊥ = omega arith in w)

  past_2 : (i : ℕ) → (i ≡ 11 → ⊥) → (i ≡ 12 → ⊥) → get_or X2 i 0 ≡ get_or X1 i 0
  past_2 i p q = when_at shortest X1 m n win_1 (ltb (key_of shortest m n) (key_in shortest X1)) i p q

  past_3 : (i : ℕ) → (i ≡ 13 → ⊥) → (i ≡ 14 → ⊥) → get_or X3 i 0 ≡ get_or X2 i 0
  past_3 i p q = when_at longest X2 m n win_2 (ltb (key_of longest m n) (key_in longest X2)) i p q

  list_1 : (e : Side) → told X1 (mark_list e) ≡ told a (mark_list e)
  unfolding told
  list_1 shortest = near_1 11 (omega arith)
  list_1 longest = near_1 13 (omega arith)

  deal_1 : (e : Side) → told X1 (mark_deal e) ≡ told a (mark_deal e)
  unfolding told
  deal_1 shortest = near_1 12 (omega arith)
  deal_1 longest = near_1 14 (omega arith)

  list_2 : told X2 (mark_list longest) ≡ told a (mark_list longest)
  unfolding told
  list_2 = past_2 13 (λ q. let w : ⊥ = omega arith in w) (λ q. let w : ⊥ = omega arith in w) ∙ near_1 13 (omega arith)

  deal_2 : told X2 (mark_deal longest) ≡ told a (mark_deal longest)
  unfolding told
  deal_2 = past_2 14 (λ q. let w : ⊥ = omega arith in w) (λ q. let w : ⊥ = omega arith in w) ∙ near_1 14 (omega arith)

  pub win_small_1 : Small shortest X1
  win_small_1 = small_same shortest a X1 ss win_1 (list_1 shortest) (deal_1 shortest)

  pub win_small_2 : Small longest (mark_entered shortest X1 m n)
  win_small_2 = small_same longest a X2 sl win_2 list_2 deal_2

  asked_1 : ltb (key_of shortest m n) (key_in shortest X1) ≡ ltb (key_of shortest m n) (key_in shortest a)
  asked_1 = ap (ltb (key_of shortest m n)) (key_same shortest X1 a (list_1 shortest) (deal_1 shortest))

  asked_2 : ltb (key_of longest m n) (key_in longest X2) ≡ ltb (key_of longest m n) (key_in longest a)
  asked_2 = ap (ltb (key_of longest m n)) (key_same longest X2 a list_2 deal_2)

  far : (i : ℕ) → 15 ≤ i → get_or X3 i 0 ≡ get_or X1 i 0
  far i h =
      past_3 i (λ q. let w : ⊥ = omega arith in w) (λ q. let w : ⊥ = omega arith in w)
      ∙ past_2 i (λ q. let w : ⊥ = omega arith in w) (λ q. let w : ⊥ = omega arith in w)

  counted_here : (k : ℕ) → k < 201 → Dec (m ≡ k) → told X3 (lists k) ≡ told a (lists k) + cond (eqb m k) 1 0
  unfolding told
  counted_here k h (yes q) =
      rw (eq-eqb m k q) (far (15 + k) (omega arith) ∙ subst (λ (x : ℕ). get_or X1 (15 + x) 0 ≡ get_or a (15 + x) 0 + 1) q r.here)
  counted_here k h (no d) =
      rw (ne_eqb m k d)
      (far (15 + k) (omega arith) ∙ r.others (15 + k) (λ q. d (let z : m ≡ k = omega arith in z)) ∙ (omega arith))

  listed_here : (e : Side) → told X3 (mark_list e) ≡ cond (ltb (key_of e m n) (key_in e a)) m (told a (mark_list e))
  listed_here shortest =
      (told_at X3 (mark_list shortest) ∙ past_3 11 (λ q. let w : ⊥ = omega arith in w) (λ q. let w : ⊥ = omega arith in w) ∙ sym (told_at X2 (mark_list shortest)))
      ∙ when_list shortest X1 m n win_1 (ltb (key_of shortest m n) (key_in shortest X1))
      ∙ ap₂ (λ (t : Bool) (x : ℕ). cond t m x) asked_1 (list_1 shortest)
  listed_here longest =
      when_list longest X2 m n win_2 (ltb (key_of longest m n) (key_in longest X2)) ∙ ap₂ (λ (t : Bool) (x : ℕ). cond t m x) asked_2 list_2

  dealt_here : (e : Side) → told X3 (mark_deal e) ≡ cond (ltb (key_of e m n) (key_in e a)) n (told a (mark_deal e))
  dealt_here shortest =
      (told_at X3 (mark_deal shortest) ∙ past_3 12 (λ q. let w : ⊥ = omega arith in w) (λ q. let w : ⊥ = omega arith in w) ∙ sym (told_at X2 (mark_deal shortest)))
      ∙ when_deal shortest X1 m n win_1 (ltb (key_of shortest m n) (key_in shortest X1))
      ∙ ap₂ (λ (t : Bool) (x : ℕ). cond t n x) asked_1 (deal_1 shortest)
  dealt_here longest =
      when_deal longest X2 m n win_2 (ltb (key_of longest m n) (key_in longest X2)) ∙ ap₂ (λ (t : Bool) (x : ℕ). cond t n x) asked_2 deal_2

  pub win_noted : WinNoted a m n (mark_entered longest (mark_entered shortest X1 m n) m n)
  win_noted =
      record {
        long = win_3;
        lengths = λ k h. counted_here k h (ℕ_discrete m k);
        list = listed_here;
        deal = dealt_here;
        below = λ i h.
            past_3 i (λ q. let w : ⊥ = omega arith in w) (λ q. let w : ⊥ = omega arith in w)
            ∙ past_2 i (λ q. let w : ⊥ = omega arith in w) (λ q. let w : ⊥ = omega arith in w) ∙ near_1 i (omega arith);
        above = λ i h. far i (omega arith) ∙ r.others i (λ q. let w : ⊥ = omega arith in w);
      }

-- ---- a deal

bit_free : (a : List ℕ) (n : ℕ) → covered a n ≡ false → bit_at (told a (covers ((n - 1) / 64))) ((n - 1) % 64) ≡ 0
unfolding covered bit_at
bit_free a n e = by_bit (ℕ_discrete (bit_at (told a (covers ((n - 1) / 64))) ((n - 1) % 64)) 1)
  where
    by_bit : Dec (bit_at (told a (covers ((n - 1) / 64))) ((n - 1) % 64) ≡ 1) → bit_at (told a (covers ((n - 1) / 64))) ((n - 1) % 64) ≡ 0
    by_bit (yes q) =
        true_or_not (eqb (bit_at (told a (covers ((n - 1) / 64))) ((n - 1) % 64)) 1) (eq-eqb (bit_at (told a (covers ((n - 1) / 64))) ((n - 1) % 64)) 1 q) e
    by_bit (no d) = let s = bit_small (told a (covers ((n - 1) / 64))) ((n - 1) % 64) in omega arith

module _ {a : List ℕ} {n : ℕ} {x : Result} (en : Enterable a n x) (which : ℕ)
    (at : (which < 7) × (get_or answers_counted which 0 ≡ x.answer)) where
  abbrev word : ℕ
  word = (n - 1) / 64

  abbrev bit : ℕ
  bit = (n - 1) % 64

  good : IsGood a
  good = good_is a en.good

  word_in : word < 500
  word_in = let l = en.low in let h = en.high in omega arith

  one_bit : (1 * 2 ^ bit) % 2 ^ 64 ≡ 2 ^ bit
  one_bit = bit_word bit (omega arith)

  pub note_room_1 : (3 + which < length a) × (get_or a (3 + which) 0 + 1 < 2 ^ 64)
  note_room_1 =
      let w = at.0 in
      let l = good.long in
      (omega arith, let m = answers_most good which w in let e = told_at a (answers which) in omega arith)

  module _ {X1 : List ℕ} (r1 : Raised a (3 + which) 1 X1) where
    pub note_room_2 : (10 < length X1) × (get_or X1 10 0 + x.pops < 2 ^ 64)
    note_room_2 =
        let w = at.0 in
        let l = good.long in
        let k = r1.long in (
          omega arith,
          let o = r1.others 10 (λ q. let w : ⊥ = omega arith in w) in
              let e = told_at a all_pops in
              let p = good.pops in
              let m = pops_fit _ _ good.budget (deals_most a) in
              let f = en.afforded in
              let b = good.budget in
              omega arith,
        )

    module _ {X2 : List ℕ} (r2 : Raised X1 10 x.pops X2) where
      long_x2 : length X2 ≡ 716
      long_x2 = r2.long ∙ r1.long ∙ good.long

      pub note_room_3 : ((i : ℕ) → get_or a i 0 < 2 ^ 64) → (216 + word < length X2) × (get_or X2 (216 + word) 0 + (1 * 2 ^ bit) % 2 ^ 64 < 2 ^ 64)
      note_room_3 small =
          let w = at.0 in
          let v = word_in in
          let l = long_x2 in (
            omega arith,
            subst (λ (y : ℕ). y + (1 * 2 ^ bit) % 2 ^ 64 < 2 ^ 64)
                (sym (r2.others (216 + word) (λ q. let w : ⊥ = omega arith in w) ∙ r1.others (216 + word) (λ q. let w : ⊥ = omega arith in w)))
                (subst (λ (y : ℕ). get_or a (216 + word) 0 + y < 2 ^ 64) (sym one_bit)
                (bit_fits 64 bit (get_or a (216 + word) 0) (omega arith) (small (216 + word))
                (ap (λ (y : ℕ). bit_at y bit) (sym (told_at a (covers word))) ∙ bit_free a n en.new))),
          )

      module _ {X3 : List ℕ} (r3 : Raised X2 (216 + word) ((1 * 2 ^ bit) % 2 ^ 64) X3) where
        long_x3 : length X3 ≡ 716
        long_x3 = r3.long ∙ long_x2

        -- the other words
        plain : (i : ℕ) → (i ≡ 3 + which → ⊥) → (i ≡ 10 → ⊥) → (i ≡ 216 + word → ⊥) → get_or X3 i 0 ≡ get_or a i 0
        plain i p q s = r3.others i s ∙ r2.others i q ∙ r1.others i p

        low_plain : (i : ℕ) → i < 3 → get_or X3 i 0 ≡ get_or a i 0
        low_plain i h = plain i (λ q. let w : ⊥ = omega arith in w) (λ q. let w : ⊥ = omega arith in w) (λ q. let w : ⊥ = omega arith in w)

        mid_plain : (i : ℕ) → 11 ≤ i → i < 216 → get_or X3 i 0 ≡ get_or a i 0
        mid_plain i h k =
            let w = at.0 in
            plain i (λ q. let w : ⊥ = omega arith in w) (λ q. let w : ⊥ = omega arith in w) (λ q. let w : ⊥ = omega arith in w)

        list_plain : (e : Side) → told X3 (mark_list e) ≡ told a (mark_list e)
        unfolding told
        list_plain shortest = mid_plain 11 (omega arith) (omega arith)
        list_plain longest = mid_plain 13 (omega arith) (omega arith)

        deal_plain : (e : Side) → told X3 (mark_deal e) ≡ told a (mark_deal e)
        unfolding told
        deal_plain shortest = mid_plain 12 (omega arith) (omega arith)
        deal_plain longest = mid_plain 14 (omega arith) (omega arith)

        lists_plain : (m : ℕ) → m < 201 → told X3 (lists m) ≡ told a (lists m)
        unfolding told
        lists_plain m h = mid_plain (15 + m) (omega arith) (omega arith)

        answers_in : (k : ℕ) → k < 7 → Dec (k ≡ which) → told X3 (answers k) ≡ told a (answers k) + cond (eqb x.answer (get_or answers_counted k 0)) 1 0
        unfolding told
        answers_in k h d =
            let w = at.0 in
            r3.others (3 + k) (λ q. let w : ⊥ = omega arith in w) ∙ r2.others (3 + k) (λ q. let w : ⊥ = omega arith in w) ∙ by_place d
            ∙ ap (λ (y : ℕ). get_or a (3 + k) 0 + y) (sym (answer_place x.answer which k w h at.1))
          where
            by_place : Dec (k ≡ which) → get_or X1 (3 + k) 0 ≡ get_or a (3 + k) 0 + cond (eqb k which) 1 0
            by_place (yes q) =
                rw (eq-eqb k which q) (subst (λ (y : ℕ). get_or X1 (3 + y) 0 ≡ get_or a (3 + y) 0 + 1) (sym q) r1.here)
            by_place (no d) = rw (ne_eqb k which d) (r1.others (3 + k) (λ q. d (let z : k ≡ which = omega arith in z)) ∙ (omega arith))

        pops_in : told X3 all_pops ≡ told a all_pops + x.pops
        unfolding told
        pops_in =
            let w = at.0 in
            r3.others 10 (λ q. let w : ⊥ = omega arith in w) ∙ r2.here
            ∙ ap (λ (y : ℕ). y + x.pops) (r1.others 10 (λ q. let w : ⊥ = omega arith in w))

        covers_in : (v : ℕ) → v < 500 → Dec (word ≡ v) → told X3 (covers v) ≡ told a (covers v) + cond (eqb word v) (2 ^ bit) 0
        unfolding told
        covers_in v h (yes q) =
            let w = at.0 in
            rw (eq-eqb word v q)
            (subst (λ (y : ℕ). get_or X3 (216 + y) 0 ≡ get_or a (216 + y) 0 + 2 ^ bit) q
            (r3.here
            ∙ ap₂ (λ (y z : ℕ). y + z) (r2.others (216 + word) (λ q. let w : ⊥ = omega arith in w) ∙ r1.others (216 + word) (λ q. let w : ⊥ = omega arith in w)) one_bit))
        covers_in v h (no d) =
            let w = at.0 in
            rw (ne_eqb word v d)
            (plain (216 + v) (λ q. let w : ⊥ = omega arith in w) (λ q. let w : ⊥ = omega arith in w) (λ q. d (let z : word ≡ v = omega arith in z)) ∙ (omega arith))

        small_in : (e : Side) → Small e X3
        small_in e = small_same e a X3 (small_good e a good) long_x3 (list_plain e) (deal_plain e)

        pub note_room_4 : ((x.moves ≤ 200) × (n ≤ 32000)) × ((get_or X3 (15 + x.moves) 0 ≤ 32000) × (Small shortest X3 × Small longest X3))
        note_room_4 =
            let s = en.short in
            let p = mid_plain (15 + x.moves) (omega arith) (omega arith) in
            let m = lists_most good x.moves (omega arith) in
            let e = told_at a (lists x.moves) in
            ((s, en.high), (omega arith, (small_in shortest, small_in longest)))

        -- no win: the marks and the lengths stay
        plain_at : won x ≡ false → (g : Figure) → Stands g → told X3 g ≡ noted_figure a n x g
        unfolding told noted_figure
        plain_at f the_budget h = low_plain 0 (omega arith)
        plain_at f the_capacity h = low_plain 1 (omega arith)
        plain_at f the_flag h = low_plain 2 (omega arith)
        plain_at f (answers k) h = answers_in k h (ℕ_discrete k which)
        plain_at f all_pops h = pops_in
        plain_at f (mark_list e) h = list_plain e ∙ sym (rw f refl)
        plain_at f (mark_deal e) h = deal_plain e ∙ sym (rw f refl)
        plain_at f (lists m) h = rw f (lists_plain m h ∙ (omega arith))
        plain_at f (covers v) h = covers_in v h (ℕ_discrete word v)

        pub note_plain : (x.answer ≡ 0 → ⊥) → X3 ≡ noted a n x
        unfolding noted
        note_plain d =
            same_words X3 (noted a n x) long_x3 (words_long (noted_figure a n x))
            (λ g h. plain_at (ne_eqb x.answer 0 d) g h ∙ sym (words_tell (noted_figure a n x) g h))

        module _ {X4 : List ℕ} (wn : WinNoted X3 x.moves n X4) where
          asked : (e : Side) → ltb (key_of e x.moves n) (key_in e X3) ≡ ltb (key_of e x.moves n) (key_in e a)
          asked e = ap (ltb (key_of e x.moves n)) (key_same e X3 a (list_plain e) (deal_plain e))

          win_at : won x ≡ true → (g : Figure) → Stands g → told X4 g ≡ noted_figure a n x g
          unfolding told noted_figure
          win_at f the_budget h = wn.below 0 (omega arith) ∙ low_plain 0 (omega arith)
          win_at f the_capacity h = wn.below 1 (omega arith) ∙ low_plain 1 (omega arith)
          win_at f the_flag h = wn.below 2 (omega arith) ∙ low_plain 2 (omega arith)
          win_at f (answers k) h = wn.below (3 + k) (omega arith) ∙ answers_in k h (ℕ_discrete k which)
          win_at f all_pops h = wn.below 10 (omega arith) ∙ pops_in
          win_at f (mark_list e) h = wn.list e ∙ ap₂ (λ (t : Bool) (y : ℕ). cond t x.moves y) (asked e) (list_plain e) ∙ sym (rw f refl)
          win_at f (mark_deal e) h = wn.deal e ∙ ap₂ (λ (t : Bool) (y : ℕ). cond t n y) (asked e) (deal_plain e) ∙ sym (rw f refl)
          win_at f (lists m) h = wn.lengths m h ∙ ap (λ (y : ℕ). y + cond (eqb x.moves m) 1 0) (lists_plain m h) ∙ sym (rw f refl)
          win_at f (covers v) h = wn.above (216 + v) (omega arith) ∙ covers_in v h (ℕ_discrete word v)

          pub note_won : x.answer ≡ 0 → X4 ≡ noted a n x
          unfolding noted
          note_won z =
              same_words X4 (noted a n x) wn.long (words_long (noted_figure a n x))
              (λ g h. win_at (eq-eqb x.answer 0 z) g h ∙ sym (words_tell (noted_figure a n x) g h))
