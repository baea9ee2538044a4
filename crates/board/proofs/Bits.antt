-- The bits of a number: one bit more changes that bit alone, and the ones are counted by adding the bits up.
use mathlib.Core.Path.{◌≡◌, refl, sym, ap, ◌∙◌}
use Prim.Native.Nat.{ℕ, zero, suc, ◌+◌, ◌*◌, ◌/◌, ◌%◌, ◌^◌, ◌<◌, ◌≤◌}
use native.Mathlib.Nat.{one-mul, pow-suc, not-suc-le-zero, le_of_suc-le-suc, pow-zero, div-one}
use native.Mathlib.Numerals.{one-add}
use native.Mathlib.Omega.{arith}
use lib.Dec.{lit<}
use lib.Pow.{shr-shr, shl_exact}
use lib.Count.{ones, ones_step, ones-le}
use Rattle.base.proofs.Sums.{sum_none, sum_first, sum_same}
use Rattle.base.specs.Words.{sum}
use Rattle.board.specs.Inner.{bit_at}

pub bit_first : (n : ℕ) → bit_at n 0 ≡ n % 2
unfolding bit_at
bit_first n = rw (pow-zero, div-one)

pub bit_next : (n k : ℕ) → bit_at n (suc k) ≡ bit_at (n / 2) k
unfolding bit_at
bit_next n k = ap (λ (m : ℕ). m % 2) (ap (λ (j : ℕ). n / 2 ^ j) (sym (one-add k)) ∙ sym (shr-shr n 1 k))

pub bit_small : (n k : ℕ) → bit_at n k ≤ 1
unfolding bit_at
bit_small n k = omega arith

-- one bit of a word
pub bit_word : (k : ℕ) → k < 64 → (1 * 2 ^ k) % 2 ^ 64 ≡ 2 ^ k
bit_word k h = shl_exact 1 k 64 (lit< tt) (omega arith) ∙ one-mul (2 ^ k)

-- ---- a bit that was not there is added

halved : (n x : ℕ) → (n + x * 2) / 2 ≡ n / 2 + x
halved n x = omega arith

even : (n x : ℕ) → (n + x * 2) % 2 ≡ n % 2
even n x = omega arith

-- the number with bit k + 1 added, halved, is the half with bit k added
bit_half : (n k j : ℕ) → bit_at (n + 2 ^ suc k) (suc j) ≡ bit_at (n / 2 + 2 ^ k) j
bit_half n k j = bit_next (n + 2 ^ suc k) j ∙ rw pow-suc (ap (λ (m : ℕ). bit_at m j) (halved n (2 ^ k)))

pub bit_here : (k n : ℕ) → bit_at n k ≡ 0 → bit_at (n + 2 ^ k) k ≡ 1
bit_here zero n e = rw (bit_first, pow-zero) (let f = sym (bit_first n) ∙ e in omega arith)
bit_here (suc k) n e = bit_half n k k ∙ bit_here k (n / 2) (sym (bit_next n k) ∙ e)

pub bit_other : (k j n : ℕ) → bit_at n k ≡ 0 → (j ≡ k → ⊥) → bit_at (n + 2 ^ k) j ≡ bit_at n j
bit_other zero zero n e d = absurd (d refl)
bit_other zero (suc j) n e d =
    let f = sym (bit_first n) ∙ e in
    bit_next (n + 2 ^ 0) j ∙ rw pow-zero (ap (λ (m : ℕ). bit_at m j) (let g : (n + 1) / 2 ≡ n / 2 = omega arith in g)) ∙ sym (bit_next n j)
bit_other (suc k) zero n e d = bit_first (n + 2 ^ suc k) ∙ rw pow-suc (even n (2 ^ k)) ∙ sym (bit_first n)
bit_other (suc k) (suc j) n e d =
    bit_half n k j ∙ bit_other k j (n / 2) (sym (bit_next n k) ∙ e) (λ q. d (ap suc q)) ∙ sym (bit_next n j)

-- the number stays as short as it was
pub bit_fits : (m k n : ℕ) → k < m → n < 2 ^ m → bit_at n k ≡ 0 → n + 2 ^ k < 2 ^ m
bit_fits zero k n h b e = absurd (not-suc-le-zero h)
bit_fits (suc m) zero n h b e =
    let f = sym (bit_first n) ∙ e in
    let g = pow-suc 2 m in
    rw pow-zero (omega arith)
bit_fits (suc m) (suc k) n h b e =
    let g = pow-suc 2 m in
    let i = bit_fits m k (n / 2) (le_of_suc-le-suc h) (omega arith) (sym (bit_next n k) ∙ e) in
    let q = pow-suc 2 k in
    omega arith

-- ---- the ones of a number are its bits added up

pub ones_are_bits : (m n : ℕ) → n < 2 ^ m → ones n ≡ sum m (λ k. bit_at n k)
ones_are_bits zero n h = omega (arith, ones-le 0 n h, sum_none (λ k. bit_at n k))
ones_are_bits (suc m) n h =
    let g = pow-suc 2 m in
    let i = ones_are_bits m (n / 2) (omega arith) in
    ones_step n
    ∙ (let e = sum_first (λ k. bit_at n k) m in
    let s = sum_same (λ k. bit_at n (suc k)) (λ k. bit_at (n / 2) k) m (λ k l. bit_next n k) in
    omega (arith, bit_first n))
