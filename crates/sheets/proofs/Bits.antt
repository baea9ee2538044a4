-- Words with a bit a number: what a word of given bits tells, and words that share no bit added.
use mathlib.Core.Path.{◌≡◌, refl, sym, ap, ◌∙◌, subst}
use mathlib.Core.Bool.{Bool, true, false, cond}
use Prim.Native.Nat.{ℕ, zero, suc, ◌+◌, ◌/◌, ◌%◌, ◌^◌, ◌<◌, ◌≤◌}
use native.Mathlib.Nat.{pow-suc, not-suc-le-zero, pow-zero, div-eq_of_lt}
use native.Mathlib.Omega.{arith}
use native.Mathlib.Decide.{ℕ_discrete}
use Rattle.base.specs.Words.{sum}
use Rattle.board.specs.Inner.{bit_at}
use Rattle.board.proofs.Bits.{bit_first, bit_next, bit_here, bit_other}

-- the word whose bit b is what f says
abbrev pub packed : ℕ → (ℕ → Bool) → ℕ
packed n f = sum n (λ b. cond (f b) (2 ^ b) 0)

bit_above : (n x : ℕ) → x < 2 ^ n → bit_at x n ≡ 0
unfolding bit_at
bit_above n x h = ap (λ (y : ℕ). y % 2) (div-eq_of_lt h)

module _ (f : ℕ → Bool) where
  pub packed_below : (n : ℕ) → packed n f < 2 ^ n
  unfolding sum
  packed_below zero = rw pow-zero (omega arith)
  packed_below (suc n) = by_bit (f n) (packed_below n)
    where
      by_bit : (t : Bool) → packed n f < 2 ^ n → packed n f + cond t (2 ^ n) 0 < 2 ^ suc n
      by_bit true h = let g = pow-suc 2 n in omega arith
      by_bit false h = let g = pow-suc 2 n in omega arith

  pub packed_bit : (n k : ℕ) → k < n → bit_at (packed n f) k ≡ cond (f k) 1 0
  unfolding sum
  packed_bit zero k h = absurd (not-suc-le-zero h)
  packed_bit (suc n) k h = by_place (packed_bit n k) (ℕ_discrete k n) (f n) refl
    where
      clear : bit_at (packed n f) n ≡ 0
      clear = bit_above n (packed n f) (packed_below n)

      by_place : (k < n → bit_at (packed n f) k ≡ cond (f k) 1 0) → Dec (k ≡ n) → (t : Bool) → f n ≡ t → bit_at (packed n f + cond (f n) (2 ^ n) 0) k ≡ cond (f k) 1 0
      by_place before (yes e) true q =
          subst (λ (x : ℕ). bit_at (packed n f + cond (f n) (2 ^ n) 0) x ≡ cond (f x) 1 0) (sym e) (rw q (bit_here n (packed n f) clear))
      by_place before (yes e) false q =
          subst (λ (x : ℕ). bit_at (packed n f + cond (f n) (2 ^ n) 0) x ≡ cond (f x) 1 0) (sym e)
          (rw q (ap (λ (x : ℕ). bit_at x n) (let z : packed n f + 0 ≡ packed n f = omega arith in z) ∙ clear))
      by_place before (no d) true q = rw q (bit_other n k (packed n f) clear d ∙ before (omega arith))
      by_place before (no d) false q = rw q (ap (λ (x : ℕ). bit_at x k) (let z : packed n f + 0 ≡ packed n f = omega arith in z) ∙ before (omega arith))

-- ---- two words that share no bit

pub joined_bit : (k a b : ℕ) → ((j : ℕ) → j ≤ k → bit_at a j + bit_at b j ≤ 1) → bit_at (a + b) k ≡ bit_at a k + bit_at b k
joined_bit zero a b h =
    let f = h 0 (omega arith) in
    bit_first (a + b) ∙ (let x = bit_first a in let y = bit_first b in omega arith)
joined_bit (suc k) a b h =
    let f = h 0 (omega arith) in
    let x = bit_first a in
    let y = bit_first b in
    bit_next (a + b) k
    ∙ ap (λ (m : ℕ). bit_at m k) (let g : (a + b) / 2 ≡ a / 2 + b / 2 = omega arith in g)
    ∙ joined_bit k (a / 2) (b / 2) (λ j l. let p = h (suc j) (omega arith) in let u = bit_next a j in let v = bit_next b j in omega arith)
    ∙ (let u = bit_next a k in let v = bit_next b k in omega arith)

pub joined_below : (n a b : ℕ) → a < 2 ^ n → b < 2 ^ n → ((j : ℕ) → j < n → bit_at a j + bit_at b j ≤ 1) → a + b < 2 ^ n
joined_below zero a b p q h = let z = pow-zero 2 in omega arith
joined_below (suc n) a b p q h =
    let g = pow-suc 2 n in
    let f = h 0 (omega arith) in
    let x = bit_first a in
    let y = bit_first b in
    let i = joined_below n (a / 2) (b / 2) (omega arith) (omega arith)
    (λ j l. let p = h (suc j) (omega arith) in let u = bit_next a j in let v = bit_next b j in omega arith) in
    omega arith
