-- Sheets with wins of two lengths, marked rightly and wrongly: what the tests say of their marks is evaluated.
use mathlib.Core.Path.{◌≡◌, refl, sym, ap, ◌∙◌}
use mathlib.Core.Bool.{Bool, true, false, cond, not, ◌&&◌}
use mathlib.Core.List.{List, [], ◌∷◌, ◌++◌}
use Prim.Native.Nat.{ℕ, zero, suc, ◌+◌, ◌/◌, ◌%◌, ◌<◌, ◌≤◌}
use native.Mathlib.Omega.{arith}
use native.Mathlib.Decide.{dec_lt}
use lib.Dec.{eqb}
use lib.ListN.{length, get_or, replicate, get_or-replicate}
use lib.Seq.{get_or-append-add}
use Rattle.base.specs.Words.{every, sum}
use Rattle.base.specs.Answer.{given, refused}
use Rattle.base.proofs.Words.{not_so, true_or_not, every_at, every_by}
use Rattle.board.specs.Inner.{bit_at}
use Rattle.board.proofs.Bits.{bit_first, bit_next}
use Rattle.sheets.specs.declared.Side.{Side}
use Rattle.sheets.specs.declared.Side.TheVariants.{Shortest as shortest, Longest as longest}
use Rattle.sheets.specs.Figures.{told}
use Rattle.sheets.specs.Over.{over}
use Rattle.sheets.specs.Good.{covered, deals, is_absent, is_best, has_deal, good_mark, good_sheet}
use Rattle.sheets.specs.Adding.{same_settings, apart, added, add_asked}
use Rattle.sheets.proofs.Covers.{covered_at}
use Rattle.sheets.proofs.Goodness.{good_is}
use Rattle.sheets.proofs.Adding.{add_comm}

-- 216 words of figures, and the deals, all of them below 65
abbrev sheet : List ℕ → ℕ → List ℕ
sheet figures low = figures ++ (low ∷ replicate 499 0)

-- deal 7 was won with 80 moves, deal 9 with 95; the lengths that are marked are told
abbrev two_figures : ℕ → ℕ → List ℕ
two_figures short long =
    (1000 ∷ 64 ∷ 1 ∷ 2 ∷ 0 ∷ 0 ∷ 0 ∷ 0 ∷ 0 ∷ 0 ∷ 20 ∷ short ∷ 7 ∷ long ∷ 9 ∷ [])
    ++ (replicate 80 0 ++ (1 ∷ (replicate 14 0 ++ (1 ∷ replicate 105 0))))

abbrev two_wins : ℕ → ℕ → List ℕ
two_wins short long = sheet (two_figures short long) 320

-- deal 5 came to the limit
abbrev limit : List ℕ
limit = sheet ((1000 ∷ 64 ∷ 1 ∷ 0 ∷ 0 ∷ 0 ∷ 1 ∷ 0 ∷ 0 ∷ 0 ∷ 1000 ∷ []) ++ replicate 205 0) 16

-- ---- the marks

pub both_right : (good_mark shortest (two_wins 80 95) ≡ true) × (good_mark longest (two_wins 80 95) ≡ true)
unfolding good_mark is_best has_deal covered told every
both_right = (refl, refl)

-- a won list has that length, and another one is better
pub shortest_95 : good_mark shortest (two_wins 95 95) ≡ false
unfolding good_mark is_best has_deal covered told every
shortest_95 = refl

pub longest_80 : good_mark longest (two_wins 80 80) ≡ false
unfolding good_mark is_best has_deal covered told every
longest_80 = refl

-- better than each of them, but no won list has that length
pub shortest_79 : good_mark shortest (two_wins 79 95) ≡ false
unfolding good_mark is_best has_deal covered told every
shortest_79 = refl

pub longest_96 : good_mark longest (two_wins 80 96) ≡ false
unfolding good_mark is_best has_deal covered told every
longest_96 = refl

-- ---- 47 on either side, whatever the other sheet is

module _ (e : Side) (a : List ℕ) (wrong : good_mark e a ≡ false) where
  bad : good_sheet a ≡ false
  bad = not_so (good_sheet a) (λ t. true_or_not (good_mark e a) ((good_is a t).marks e) wrong)

  pub refused_into : (b : List ℕ) → add_asked a b ≡ refused 47
  unfolding add_asked
  refused_into b = rw bad

  pub refused_other : (b : List ℕ) → add_asked b a ≡ refused 47
  refused_other b = add_comm b a ∙ refused_into b

-- ---- with both marks right it is added, from either side

no_bit : (k : ℕ) → bit_at 0 k ≡ 0
no_bit zero = bit_first 0
no_bit (suc k) = bit_next 0 k ∙ no_bit k

first_part : (f : ℕ → ℕ) (m n : ℕ) → ((k : ℕ) → n ≤ k → k < m + n → f k ≡ 0) → sum (m + n) f ≡ sum n f
unfolding sum
first_part f zero n h = ap (λ (x : ℕ). sum x f) (let q : 0 + n ≡ n = omega arith in q)
first_part f (suc m) n h =
    ap (λ (x : ℕ). sum x f) (let q : suc m + n ≡ suc (m + n) = omega arith in q)
    ∙ (let a = first_part f m n (λ k l u. h k l (omega arith)) in let b = h (m + n) (omega arith) (omega arith) in omega arith)

module _ (figures : List ℕ) (low : ℕ) (long : length figures ≡ 216) where
  no_deal : (i : ℕ) → 64 ≤ i → i < 32000 → covered (sheet figures low) (suc i) ≡ false
  unfolding told
  no_deal i h l =
      covered_at (sheet figures low) i
      ∙ ap (λ (x : ℕ). eqb (bit_at x (i % 64)) 1) (at (i / 64) (omega arith) (omega arith))
      ∙ ap (λ (x : ℕ). eqb x 1) (no_bit (i % 64))
    where
      at : (w : ℕ) → 0 < w → w < 500 → get_or (sheet figures low) (216 + w) 0 ≡ 0
      at zero u v = absurd (let w : ⊥ = omega arith in w)
      at (suc w) u v =
          ap (λ (x : ℕ). get_or (sheet figures low) (x + suc w) 0) (sym long) ∙ get_or-append-add figures (low ∷ replicate 499 0) (suc w) 0
          ∙ get_or-replicate 499 w 0 0 (omega arith)

  deals_low : deals (sheet figures low) ≡ sum 64 (λ i. cond (covered (sheet figures low) (suc i)) 1 0)
  unfolding deals over
  deals_low =
      first_part (λ i. cond (covered (sheet figures low) (suc i)) 1 0) 31936 64 (λ k h l. ap (λ (t : Bool). cond t 1 0) (no_deal k h l))

two_good : good_sheet (two_wins 80 95) ≡ true
unfolding good_sheet good_mark is_best has_deal covered told every sum
two_good = rw (deals_low _ 320 refl)

limit_good : good_sheet limit ≡ true
unfolding good_sheet good_mark is_absent covered told every sum
limit_good = rw (deals_low _ 16 refl)

two_apart : apart (two_wins 80 95) limit ≡ true
unfolding apart covered told every
two_apart = every_by (λ i. not (covered (two_wins 80 95) (suc i) && covered limit (suc i))) 32000 (λ i l. by_place i l (dec_lt i 64))
  where
    by_place : (i : ℕ) → i < 32000 → Dec (i < 64) → not (covered (two_wins 80 95) (suc i) && covered limit (suc i)) ≡ true
    by_place i l (yes h) = every_at (λ i. not (covered (two_wins 80 95) (suc i) && covered limit (suc i))) 64 refl i h
    by_place i l (no d) = ap (λ (t : Bool). not (t && covered limit (suc i))) (no_deal (two_figures 80 95) 320 refl i (omega arith) l)

pub accepted_into : add_asked (two_wins 80 95) limit ≡ given (added (two_wins 80 95) limit)
unfolding add_asked same_settings told
accepted_into = rw (two_good, limit_good, two_apart)

pub accepted_other : add_asked limit (two_wins 80 95) ≡ given (added (two_wins 80 95) limit)
accepted_other = add_comm limit (two_wins 80 95) ∙ accepted_into
