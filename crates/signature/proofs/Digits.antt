-- The digits' exclusive or is the machine's.
use Rattle.std.proofs.Common.{◌≡◌, ℕ, zero, suc, ◌+◌, ◌*◌, ◌/◌, ◌%◌, ◌^◌, ◌<◌, sym, refl, ◌∙◌, ap₂, pow-suc, arith}
use lib.Arith.{lt-one}
use lib.Bits.{differ, bit_xor, xor_step}
use Rattle.signature.specs.Fnv.{xor_digits}

-- two digits differ by their sum modulo 2
differ_digit : (x y : ℕ) → x < 2 → y < 2 → (x + y) % 2 ≡ differ x y
differ_digit zero zero h k = refl
differ_digit zero (suc zero) h k = refl
differ_digit zero (suc (suc y)) h k = omega arith
differ_digit (suc zero) zero h k = refl
differ_digit (suc zero) (suc zero) h k = refl
differ_digit (suc zero) (suc (suc y)) h k = omega arith
differ_digit (suc (suc x)) y h k = omega arith

pub xor_digits_lem : (n a b : ℕ) → a < 2 ^ n → b < 2 ^ n → xor_digits n a b ≡ bit_xor a b
unfolding xor_digits
xor_digits_lem zero a b h k = sym (ap₂ bit_xor (lt-one h) (lt-one k))
xor_digits_lem (suc n) a b h k =
    let p = pow-suc 2 n in
    ap₂ (λ (x y : ℕ). x * 2 + y)
    (xor_digits_lem n (a / 2) (b / 2) (omega arith) (omega arith))
    (differ_digit (a % 2) (b % 2) (omega arith) (omega arith))
    ∙ sym (xor_step a b)
