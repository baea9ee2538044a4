-- One deal more: what entering its result makes of a sheet is the sheet over that deal too. Runs of deals.
use mathlib.Core.Path.{◌≡◌, refl, sym, ap, ap₂, ◌∙◌}
use mathlib.Core.Bool.{Bool, true, false, cond, ◌&&◌, ◌||◌}
use mathlib.Core.List.{List}
use Prim.Native.Nat.{ℕ, suc, min, ◌+◌, ◌*◌, ◌-◌, ◌/◌, ◌%◌, ◌^◌, ◌<◌, ◌≤◌}
use native.Mathlib.Omega.{arith}
use native.Mathlib.Decide.{ℕ_discrete, dec_le}
use borrow.Author.Tests.{eq-eqb, ne_eqb, eqb-true, le-leb, leb-true}
use lib.Dec.{eqb, ltb, leb}
use lib.ListN.{get_or}
use Rattle.base.specs.Words.{sum}
use Rattle.base.proofs.Words.{not_so, true_or_not, first, second, both, same_test}
use Rattle.base.proofs.Sums.{sum-zero, sum_one}
use Rattle.sheets.specs.declared.Side.{Side}
use Rattle.sheets.specs.Figures.{answers_counted, Figure, the_budget, the_capacity, the_flag, answers, all_pops, mark_list, mark_deal, lists, covers, told}
use Rattle.sheets.specs.Over.{Settings, Result, won, over, key_of, no_key, best_key, key_list, key_deal, figure_over, sheet_over, between}
use Rattle.sheets.specs.Noted.{leads, noted_figure, noted}
use Rattle.sheets.proofs.Reading.{Stands, words_same}
use Rattle.sheets.proofs.Overs.{over_or, over_single}
use Rattle.sheets.proofs.Marks.{least_one, best_or, best_most, mark_below, mark_list_lem, mark_deal_lem, key_over}
use Rattle.sheets.proofs.Joined.{over_tells, lesser_by, covers-or}

-- ---- one deal alone

module _ (j : ℕ) (h : j < 32000) where
  covers_single : (w : ℕ) → sum 64 (λ b. cond (eqb (suc (64 * w + b)) (suc j)) (2 ^ b) 0) ≡ cond (eqb (j / 64) w) (2 ^ (j % 64)) 0
  covers_single w = by_word (ℕ_discrete (j / 64) w)
    where
      by_word : Dec (j / 64 ≡ w) → sum 64 (λ b. cond (eqb (suc (64 * w + b)) (suc j)) (2 ^ b) 0) ≡ cond (eqb (j / 64) w) (2 ^ (j % 64)) 0
      by_word (yes e) =
          rw (eq-eqb (j / 64) w e)
          (sum_one (λ b. cond (eqb (suc (64 * w + b)) (suc j)) (2 ^ b) 0) 64 (j % 64) (omega arith)
          (λ b l d. rw (ne_eqb (suc (64 * w + b)) (suc j) (λ q. d (let z : b ≡ j % 64 = omega arith in z))))
          ∙ rw (eq-eqb (suc (64 * w + j % 64)) (suc j) (omega arith)))
      by_word (no d) =
          rw (ne_eqb (j / 64) w d)
          (sum-zero (λ b. cond (eqb (suc (64 * w + b)) (suc j)) (2 ^ b) 0) 64
          (λ b l. rw (ne_eqb (suc (64 * w + b)) (suc j) (λ q. d (let z : j / 64 ≡ w = omega arith in z)))))

  best_single : (e : Side) (r : ℕ → Result) → best_key e r (λ n. eqb n (suc j)) ≡ min (cond (won (r (suc j))) (key_of e (r (suc j)).moves (suc j)) no_key) no_key
  unfolding best_key
  best_single e r =
      least_one (λ i. cond (eqb (suc i) (suc j) && won (r (suc i))) (key_of e (r (suc i)).moves (suc i)) no_key) 32000 j h
      (λ i l d. rw (ne_eqb (suc i) (suc j) (λ q. d (let z : i ≡ j = omega arith in z))) refl)
      ∙ rw (eq-eqb (suc j) (suc j) refl) refl

-- ---- entered into the sheet over others

module _ (s : Settings) (r : ℕ → Result) (p : ℕ → Bool) (j : ℕ) (h : j < 32000) (new : p (suc j) ≡ false) (short : (r (suc j)).moves ≤ 200) where
  abbrev A : List ℕ
  A = sheet_over s r p

  abbrev alone : ℕ → Bool
  alone n = eqb n (suc j)

  none : (i : ℕ) → i < 32000 → (p (suc i) && alone (suc i)) ≡ false
  none i l = not_so (p (suc i) && alone (suc i)) (λ t.
      true_or_not (p (suc i)) (first (p (suc i)) (alone (suc i)) t)
      (ap p (eqb-true (suc i) (suc j) (second (p (suc i)) (alone (suc i)) t)) ∙ new))

  more : (f : ℕ → ℕ) (x : ℕ) → x ≡ over p f → x + f (suc j) ≡ over (λ n. p n || alone n) f
  more f x e = ap₂ (λ (a b : ℕ). a + b) e (sym (over_single f j h)) ∙ sym (over_or p alone f none)

  leading :
      (e : Side) (f : ℕ → ℕ) (v : ℕ) (g : Figure) → Stands g → figure_over s r p g ≡ f (best_key e r p) → f (key_of e (r (suc j)).moves (suc j)) ≡ v
      → cond (leads e A (suc j) (r (suc j))) v (told A g) ≡ f (best_key e r (λ n. p n || alone n))
  leading e f v g st a b =
      rw (over_tells s r p g st, a, key_over e s r p) (by_win (won (r (suc j))) refl)
      ∙ ap f (sym (best_or e r p alone ∙ ap (min (best_key e r p)) (best_single j h e r)))
    where
      k : ℕ
      k = best_key e r p

      x : ℕ
      x = key_of e (r (suc j)).moves (suc j)

      by_win : (t : Bool) → won (r (suc j)) ≡ t → cond (t && ltb x k) v (f k) ≡ f (min k (min (cond t x no_key) no_key))
      by_win true w =
          let m = mark_below e (r (suc j)).moves (suc j) short (omega arith) (omega arith) in
          ap (λ (y : ℕ). cond (ltb x k) y (f k)) (sym b) ∙ lesser_by f k x
          ∙ ap f (let q : min k x ≡ min k (min x no_key) = omega arith in q)
      by_win false w = let m = best_most e r p in ap f (let q : k ≡ min k (min no_key no_key) = omega arith in q)

  entered : (g : Figure) → Stands g → noted_figure A (suc j) (r (suc j)) g ≡ figure_over s r (λ n. p n || alone n) g
  unfolding noted_figure figure_over
  entered the_budget st = over_tells s r p the_budget st
  entered the_capacity st = over_tells s r p the_capacity st
  entered the_flag st = over_tells s r p the_flag st
  entered (answers k) st = more (λ n. cond (eqb (r n).answer (get_or answers_counted k 0)) 1 0) (told A (answers k)) (over_tells s r p (answers k) st)
  entered all_pops st = more (λ n. (r n).pops) (told A all_pops) (over_tells s r p all_pops st)
  entered (mark_list e) st =
      leading e (key_list e) (r (suc j)).moves (mark_list e) st refl (mark_list_lem e (r (suc j)).moves (suc j) short (omega arith) (omega arith))
  entered (mark_deal e) st =
      leading e key_deal (suc j) (mark_deal e) st refl (mark_deal_lem e (r (suc j)).moves (suc j) short (omega arith) (omega arith))
  entered (lists m) st = more (λ n. cond (won (r n) && eqb (r n).moves m) 1 0) (told A (lists m)) (over_tells s r p (lists m) st)
  entered (covers w) st =
      ap₂ (λ (x y : ℕ). x + y) (over_tells s r p (covers w) st)
      (ap (λ (i : ℕ). cond (eqb (i / 64) w) (2 ^ (i % 64)) 0) (let q : suc j - 1 ≡ j = omega arith in q) ∙ sym (covers_single j h w))
      ∙ covers-or p alone none w st

  pub over_one : noted (sheet_over s r p) (suc j) (r (suc j)) ≡ sheet_over s r (λ n. p n || eqb n (suc j))
  unfolding noted sheet_over
  over_one = words_same (noted_figure A (suc j) (r (suc j))) (figure_over s r (λ n. p n || alone n)) entered

-- ---- runs of deals

module _ (low high : ℕ) where
  pub between_no : (n : ℕ) → high < low → between low high n ≡ false
  unfolding between
  between_no n h = not_so (leb low n && leb n high) (λ t.
      let a = leb-true low n (first (leb low n) (leb n high) t) in
      let b = leb-true n high (second (leb low n) (leb n high) t) in
      omega arith)

  pub between_yes : (n : ℕ) → low ≤ n → n ≤ high → between low high n ≡ true
  unfolding between
  between_yes n a b = both (le-leb low n a) (le-leb n high b)

  pub between_low : (n : ℕ) → between low high n ≡ true → low ≤ n
  unfolding between
  between_low n t = leb-true low n (first (leb low n) (leb n high) t)

  pub between_high : (n : ℕ) → between low high n ≡ true → n ≤ high
  unfolding between
  between_high n t = leb-true n high (second (leb low n) (leb n high) t)

-- a run and the run after it share no number, and are one run
module _ (low m high : ℕ) where
  pub between-apart : (n : ℕ) → (between low m n && between (m + 1) high n) ≡ false
  between-apart n = not_so (between low m n && between (m + 1) high n) (λ t.
      let a = between_high low m n (first (between low m n) (between (m + 1) high n) t) in
      let b = between_low (m + 1) high n (second (between low m n) (between (m + 1) high n) t) in
      omega arith)

  pub between_joined : low ≤ m + 1 → m ≤ high → (n : ℕ) → (between low m n || between (m + 1) high n) ≡ between low high n
  between_joined a b n = same_test (between low m n || between (m + 1) high n) (between low high n) there back
    where
      there : (between low m n || between (m + 1) high n) ≡ true → between low high n ≡ true
      there t = by_part (between low m n) (between (m + 1) high n) refl refl t
        where
          by_part : (x y : Bool) → between low m n ≡ x → between (m + 1) high n ≡ y → (x || y) ≡ true → between low high n ≡ true
          by_part true y p q t = between_yes low high n (between_low low m n p) (let z = between_high low m n p in omega arith)
          by_part false true p q t = between_yes low high n (let z = between_low (m + 1) high n q in omega arith) (between_high (m + 1) high n q)
          by_part false false p q t = true_or_not false t refl

      back : between low high n ≡ true → (between low m n || between (m + 1) high n) ≡ true
      back t = by_order (dec_le n m)
        where
          u : low ≤ n
          u = between_low low high n t

          v : n ≤ high
          v = between_high low high n t

          by_order : Dec (n ≤ m) → (between low m n || between (m + 1) high n) ≡ true
          by_order (yes k) = rw (between_yes low m n u k) refl
          by_order (no k) = either_right (between low m n) (between (m + 1) high n) (between_yes (m + 1) high n (omega arith) v)
            where
              either_right : (x y : Bool) → y ≡ true → (x || y) ≡ true
              either_right true y q = refl
              either_right false y q = q

-- a run and the number after it
pub between_next : (low m n : ℕ) → low ≤ m + 1 → (between low m n || eqb n (m + 1)) ≡ between low (m + 1) n
between_next low m n a =
    ap (λ (t : Bool). between low m n || t) only ∙ between_joined low m (m + 1) a (omega arith) n
  where
    only : eqb n (m + 1) ≡ between (m + 1) (m + 1) n
    only =
        same_test (eqb n (m + 1)) (between (m + 1) (m + 1) n)
        (λ t. let e = eqb-true n (m + 1) t in between_yes (m + 1) (m + 1) n (omega arith) (omega arith))
        (λ t. let u = between_low (m + 1) (m + 1) n t in let v = between_high (m + 1) (m + 1) n t in eq-eqb n (m + 1) (omega arith))
