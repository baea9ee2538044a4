-- A number times the prime, modulo 2^64, is a sum of the number shifted, each sum taken modulo 2^64.
use Rattle.std.proofs.Common.{◌≡◌, ℕ, ◌+◌, ◌*◌, ◌%◌, ◌^◌, refl, arith}
use Rattle.signature.specs.Fnv.{prime}

-- n times more
added : (x m n : ℕ) {s r : ℕ} → s ≡ x * m % 2 ^ 64 → r ≡ (s + (x * n) % 2 ^ 64) % 2 ^ 64 → r ≡ x * (m + n) % 2 ^ 64
added x m n e f = omega arith

-- once more
added_once : (x m : ℕ) {s r : ℕ} → s ≡ x * m % 2 ^ 64 → r ≡ (s + x) % 2 ^ 64 → r ≡ x * (m + 1) % 2 ^ 64
added_once x m e f = omega arith

pub shifted_sums : (x : ℕ) {a b c d e f : ℕ}
    → a ≡ ((x * 2 ^ 40) % 2 ^ 64 + (x * 2 ^ 8) % 2 ^ 64) % 2 ^ 64
    → b ≡ (a + (x * 2 ^ 7) % 2 ^ 64) % 2 ^ 64
    → c ≡ (b + (x * 2 ^ 5) % 2 ^ 64) % 2 ^ 64
    → d ≡ (c + (x * 2 ^ 4) % 2 ^ 64) % 2 ^ 64
    → e ≡ (d + (x * 2 ^ 1) % 2 ^ 64) % 2 ^ 64
    → f ≡ (e + x) % 2 ^ 64
    → f ≡ x * prime % 2 ^ 64
shifted_sums x pa pb pc pd pe pf =
    let qa = added x (2 ^ 40) (2 ^ 8) refl pa in
    let qb = added x (2 ^ 40 + 2 ^ 8) (2 ^ 7) qa pb in
    let qc = added x (2 ^ 40 + 2 ^ 8 + 2 ^ 7) (2 ^ 5) qb pc in
    let qd = added x (2 ^ 40 + 2 ^ 8 + 2 ^ 7 + 2 ^ 5) (2 ^ 4) qc pd in
    let qe = added x (2 ^ 40 + 2 ^ 8 + 2 ^ 7 + 2 ^ 5 + 2 ^ 4) (2 ^ 1) qd pe in
    added_once x (2 ^ 40 + 2 ^ 8 + 2 ^ 7 + 2 ^ 5 + 2 ^ 4 + 2 ^ 1) qe pf
