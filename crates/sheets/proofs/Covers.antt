-- Which deal numbers a sheet covers: those that it is over, and of a sum those of both.
use mathlib.Core.Path.{◌≡◌, refl, sym, ap, ◌∙◌, subst}
use mathlib.Core.Bool.{Bool, true, false, cond, not, ◌&&◌, ◌||◌}
use mathlib.Core.List.{List}
use Prim.Native.Nat.{ℕ, zero, suc, ◌+◌, ◌*◌, ◌-◌, ◌/◌, ◌%◌, ◌<◌, ◌≤◌}
use native.Mathlib.Omega.{arith}
use lib.Dec.{eqb}
use Rattle.base.proofs.Words.{every_at}
use Rattle.board.specs.Inner.{bit_at}
use Rattle.board.proofs.Bits.{bit_small}
use Rattle.sheets.specs.Figures.{covers, told}
use Rattle.sheets.specs.Over.{Settings, Result, figure_over, sheet_over}
use Rattle.sheets.specs.Good.{covered}
use Rattle.sheets.specs.Adding.{apart, added_figure, added}
use Rattle.sheets.proofs.Reading.{words_tell}
use Rattle.sheets.proofs.Bits.{packed_bit, joined_bit}

pub covered_at : (a : List ℕ) (i : ℕ) → covered a (suc i) ≡ eqb (bit_at (told a (covers (i / 64))) (i % 64)) 1
unfolding covered bit_at
covered_at a i =
    ap (λ (j : ℕ). eqb (bit_at (told a (covers (j / 64))) (j % 64)) 1) (let q : suc i - 1 ≡ i = omega arith in q)

is_one : (t : Bool) → eqb (cond t 1 0) 1 ≡ t
is_one true = refl
is_one false = refl

-- ---- the sheet over some numbers covers them

pub covered_is : (s : Settings) (r : ℕ → Result) (p : ℕ → Bool) (i : ℕ) → i < 32000 → covered (sheet_over s r p) (suc i) ≡ p (suc i)
unfolding sheet_over figure_over
covered_is s r p i h =
    covered_at (sheet_over s r p) i
    ∙ ap (λ (x : ℕ). eqb (bit_at x (i % 64)) 1) (words_tell (figure_over s r p) (covers (i / 64)) (omega arith))
    ∙ ap (λ (x : ℕ). eqb x 1) (packed_bit (λ b. p (suc (64 * (i / 64) + b))) 64 (i % 64) (omega arith))
    ∙ is_one (p (suc (64 * (i / 64) + i % 64)))
    ∙ ap (λ (x : ℕ). p (suc x)) (let q : 64 * (i / 64) + i % 64 ≡ i = omega arith in q)

-- ---- two sheets that share no number

not_two : (x y : ℕ) → x ≤ 1 → y ≤ 1 → not (eqb x 1 && eqb y 1) ≡ true → x + y ≤ 1
not_two zero y p q e = omega arith
not_two (suc zero) zero p q e = omega arith
not_two (suc zero) (suc zero) p q e = let z : ◌≡◌ {A = ℕ} 0 1 = ap (λ (t : Bool). cond t 1 0) e in absurd (let w : ⊥ = omega arith in w)
not_two (suc zero) (suc (suc y)) p q e = absurd (let w : ⊥ = omega arith in w)
not_two (suc (suc x)) y p q e = absurd (let w : ⊥ = omega arith in w)

one_or : (x y : ℕ) → x + y ≤ 1 → eqb (x + y) 1 ≡ (eqb x 1 || eqb y 1)
one_or zero zero h = refl
one_or zero (suc zero) h = refl
one_or (suc zero) zero h = refl
one_or zero (suc (suc y)) h = absurd (let w : ⊥ = omega arith in w)
one_or (suc zero) (suc y) h = absurd (let w : ⊥ = omega arith in w)
one_or (suc (suc x)) y h = absurd (let w : ⊥ = omega arith in w)

module _ (a b : List ℕ) (free : apart a b ≡ true) where
  pub apart_bits : (w k : ℕ) → w < 500 → k < 64 → bit_at (told a (covers w)) k + bit_at (told b (covers w)) k ≤ 1
  unfolding apart
  apart_bits w k h l =
      not_two (bit_at (told a (covers w)) k) (bit_at (told b (covers w)) k) (bit_small _ _) (bit_small _ _)
      (subst (λ (t : Bool). not (t && eqb (bit_at (told b (covers w)) k) 1) ≡ true) (at a)
      (subst (λ (t : Bool). not (covered a (suc (64 * w + k)) && t) ≡ true) (at b)
      (every_at (λ i. not (covered a (suc i) && covered b (suc i))) 32000 free (64 * w + k) (omega arith))))
    where
      at : (c : List ℕ) → covered c (suc (64 * w + k)) ≡ eqb (bit_at (told c (covers w)) k) 1
      at c =
          covered_at c (64 * w + k)
          ∙ ap (λ (x : ℕ). eqb (bit_at (told c (covers x)) ((64 * w + k) % 64)) 1) (let q : (64 * w + k) / 64 ≡ w = omega arith in q)
          ∙ ap (λ (x : ℕ). eqb (bit_at (told c (covers w)) x) 1) (let q : (64 * w + k) % 64 ≡ k = omega arith in q)

  pub covered-added : (i : ℕ) → i < 32000 → covered (added a b) (suc i) ≡ (covered a (suc i) || covered b (suc i))
  unfolding added added_figure
  covered-added i h =
      covered_at (added a b) i
      ∙ ap (λ (x : ℕ). eqb (bit_at x (i % 64)) 1) (words_tell (added_figure a b) (covers (i / 64)) (omega arith))
      ∙ ap (λ (x : ℕ). eqb x 1)
      (joined_bit (i % 64) (told a (covers (i / 64))) (told b (covers (i / 64))) (λ j l. apart_bits (i / 64) j (omega arith) (omega arith)))
      ∙ one_or (bit_at (told a (covers (i / 64))) (i % 64)) (bit_at (told b (covers (i / 64))) (i % 64)) (apart_bits (i / 64) (i % 64) (omega arith) (omega arith))
      ∙ sym (ap (λ (t : Bool). t || covered b (suc i)) (covered_at a i)
      ∙ ap (λ (t : Bool). eqb (bit_at (told a (covers (i / 64))) (i % 64)) 1 || t) (covered_at b i))
