-- The sum of two sheets is the sheet over both; one deal more; no deal.
use mathlib.Core.Path.{◌≡◌, refl, sym, ap, ap₂, ◌∙◌}
use mathlib.Core.Bool.{Bool, true, false, cond, ◌&&◌, ◌||◌}
use mathlib.Core.List.{List}
use Prim.Native.Nat.{ℕ, suc, min, ◌+◌, ◌*◌, ◌^◌, ◌<◌}
use native.Mathlib.Omega.{arith}
use native.Mathlib.Decide.{dec_lt}
use borrow.Author.Tests.{lt-ltb, le-ltb}
use lib.Dec.{eqb, ltb}
use lib.ListN.{get_or}
use Rattle.base.specs.Words.{sum}
use Rattle.base.proofs.Sums.{sum_same, sum-add, sum-zero}
use Rattle.sheets.specs.declared.Side.{Side}
use Rattle.sheets.specs.Figures.{answers_counted, Figure, the_budget, the_capacity, the_flag, answers, all_pops, mark_list, mark_deal, lists, covers, told}
use Rattle.sheets.specs.Over.{Settings, Result, won, over, key_of, no_key, best_key, key_list, key_deal, figure_over, sheet_over, no_figure, zero_sheet}
use Rattle.sheets.specs.Adding.{flag_of, better, added_figure, added}
use Rattle.sheets.proofs.Reading.{Stands, words_tell, words_same}
use Rattle.sheets.proofs.Overs.{both_parts, over_or, over_none}
use Rattle.sheets.proofs.Marks.{least_same, least_always, best_or, no_list_lem, no_deal, key_over}

-- what a sheet over some deals tells
pub over_tells : (s : Settings) (r : ℕ → Result) (p : ℕ → Bool) (g : Figure) → Stands g → told (sheet_over s r p) g ≡ figure_over s r p g
unfolding sheet_over
over_tells s r p g h = words_tell (figure_over s r p) g h

flag_once : (t : Bool) → flag_of (cond t 1 0) ≡ cond t 1 0
flag_once true = refl
flag_once false = refl

pub lesser_by : (f : ℕ → ℕ) (a b : ℕ) → cond (ltb b a) (f b) (f a) ≡ f (min a b)
lesser_by f a b = by_order (dec_lt b a)
  where
    by_order : Dec (b < a) → cond (ltb b a) (f b) (f a) ≡ f (min a b)
    by_order (yes h) = rw (lt-ltb b a h) (ap f (let q : b ≡ min a b = omega arith in q))
    by_order (no h) = rw (le-ltb b a (omega arith)) (ap f (let q : a ≡ min a b = omega arith in q))

-- the bits of two sets of deals, in one word
pub covers-or :
    (p q : ℕ → Bool) → ((i : ℕ) → i < 32000 → (p (suc i) && q (suc i)) ≡ false) → (w : ℕ) → w < 500
    → sum 64 (λ b. cond (p (suc (64 * w + b))) (2 ^ b) 0) + sum 64 (λ b. cond (q (suc (64 * w + b))) (2 ^ b) 0)
    ≡ sum 64 (λ b. cond (p (suc (64 * w + b)) || q (suc (64 * w + b))) (2 ^ b) 0)
covers-or p q none w h =
    sym (sum-add (λ b. cond (p (suc (64 * w + b))) (2 ^ b) 0) (λ b. cond (q (suc (64 * w + b))) (2 ^ b) 0) 64)
    ∙ sum_same (λ b. cond (p (suc (64 * w + b))) (2 ^ b) 0 + cond (q (suc (64 * w + b))) (2 ^ b) 0)
    (λ b. cond (p (suc (64 * w + b)) || q (suc (64 * w + b))) (2 ^ b) 0) 64
    (λ b l. sym (both_parts (p (suc (64 * w + b))) (q (suc (64 * w + b))) (2 ^ b) (none (64 * w + b) (omega arith))))

-- ---- two sheets

module _ (s : Settings) (r : ℕ → Result) (p q : ℕ → Bool) (none : (i : ℕ) → i < 32000 → (p (suc i) && q (suc i)) ≡ false) where
  abbrev A : List ℕ
  A = sheet_over s r p

  abbrev B : List ℕ
  B = sheet_over s r q

  two : (g : Figure) → Stands g → told A g + told B g ≡ figure_over s r p g + figure_over s r q g
  two g h = ap₂ (λ (x y : ℕ). x + y) (over_tells s r p g h) (over_tells s r q g h)

  marked : (e : Side) (f : ℕ → ℕ) (g : Figure) → Stands g → figure_over s r p g ≡ f (best_key e r p) → figure_over s r q g ≡ f (best_key e r q)
      → cond (better e A B) (told B g) (told A g) ≡ f (best_key e r (λ n. p n || q n))
  marked e f g h a b =
      rw (over_tells s r p g h, over_tells s r q g h, a, b, key_over e s r p, key_over e s r q)
      (lesser_by f (best_key e r p) (best_key e r q) ∙ ap f (sym (best_or e r p q)))

  joined : (g : Figure) → Stands g → added_figure A B g ≡ figure_over s r (λ n. p n || q n) g
  unfolding added_figure figure_over
  joined the_budget h = over_tells s r p the_budget h
  joined the_capacity h = over_tells s r p the_capacity h
  joined the_flag h = ap flag_of (over_tells s r p the_flag h) ∙ flag_once s.partial
  joined (answers k) h = two (answers k) h ∙ sym (over_or p q (λ n. cond (eqb (r n).answer (get_or answers_counted k 0)) 1 0) none)
  joined all_pops h = two all_pops h ∙ sym (over_or p q (λ n. (r n).pops) none)
  joined (mark_list e) h = marked e (key_list e) (mark_list e) h refl refl
  joined (mark_deal e) h = marked e key_deal (mark_deal e) h refl refl
  joined (lists m) h = two (lists m) h ∙ sym (over_or p q (λ n. cond (won (r n) && eqb (r n).moves m) 1 0) none)
  joined (covers w) h = two (covers w) h ∙ covers-or p q none w h

  -- the sum of two sheets is the sheet over both
  pub sum_of_sheets : added (sheet_over s r p) (sheet_over s r q) ≡ sheet_over s r (λ n. p n || q n)
  unfolding added sheet_over
  sum_of_sheets = words_same (added_figure A B) (figure_over s r (λ n. p n || q n)) joined

-- ---- no deal

module _ (s : Settings) (r : ℕ → Result) (p : ℕ → Bool) (none : (i : ℕ) → i < 32000 → p (suc i) ≡ false) where
  nothing : (f : ℕ → ℕ) → over p f ≡ 0
  nothing f = over_none p f (λ i l. rw (none i l))

  no_best : (e : Side) → best_key e r p ≡ no_key
  unfolding best_key
  no_best e =
      least_same (λ i. cond (p (suc i) && won (r (suc i))) (key_of e (r (suc i)).moves (suc i)) no_key) (λ i. no_key) 32000
      (λ i l. rw (none i l) refl) ∙ least_always 32000

  empty : (g : Figure) → Stands g → figure_over s r p g ≡ no_figure s g
  unfolding figure_over no_figure
  empty the_budget h = refl
  empty the_capacity h = refl
  empty the_flag h = refl
  empty (answers k) h = nothing (λ n. cond (eqb (r n).answer (get_or answers_counted k 0)) 1 0)
  empty all_pops h = nothing (λ n. (r n).pops)
  empty (mark_list e) h = ap (key_list e) (no_best e) ∙ no_list_lem e
  empty (mark_deal e) h = ap key_deal (no_best e) ∙ no_deal e
  empty (lists m) h = nothing (λ n. cond (won (r n) && eqb (r n).moves m) 1 0)
  empty (covers w) h = sum-zero (λ b. cond (p (suc (64 * w + b))) (2 ^ b) 0) 64 (λ b l. rw (none (64 * w + b) (omega arith)))

  -- the sheet over no deal is all zero but for its settings
  pub over_nothing : sheet_over s r p ≡ zero_sheet s
  unfolding sheet_over zero_sheet
  over_nothing = words_same (figure_over s r p) (no_figure s) empty
