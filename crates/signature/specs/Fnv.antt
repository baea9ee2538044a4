-- FNV-1a with 64 bits, as its authors (Fowler, Noll, Vo) describe it: begin with the offset basis; for each octet, first XOR it
-- to the hash, then multiply the hash by the prime, modulo 2^64.
use Rattle.std.specs.Prelude.{ℕ, zero, suc, ◌+◌, ◌*◌, ◌/◌, ◌%◌, ◌^◌, List, [], ◌∷◌}

-- exclusive or of the lowest n binary digits
unfoldable pub xor_digits : ℕ → ℕ → ℕ → ℕ
xor_digits zero a b = 0
xor_digits (suc n) a b = xor_digits n (a / 2) (b / 2) * 2 + (a % 2 + b % 2) % 2

abbrev pub offset : ℕ
offset = 14695981039346656037

abbrev pub prime : ℕ
prime = 1099511628211

-- one octet more (the signature takes wider words in the same way)
unfoldable pub fnv_step : ℕ → ℕ → ℕ
fnv_step h x = xor_digits 64 h x * prime % 2 ^ 64

unfoldable pub fnv_from : ℕ → List ℕ → ℕ
fnv_from h [] = h
fnv_from h (x ∷ l) = fnv_from (fnv_step h x) l

-- the hash of some octets
unfoldable pub fnv : List ℕ → ℕ
fnv l = fnv_from offset l
