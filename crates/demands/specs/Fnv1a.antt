-- FNV-1a with 64 bits, from the description by its authors (Fowler, Noll, Vo) alone:
--   hash = offset_basis
--   for each octet_of_data to be hashed
--     hash = hash xor octet_of_data
--     hash = hash * FNV_prime
--   return hash
-- The 64 bit FNV_prime is 2^40 + 2^8 + 0xb3, the 64 bit offset_basis 14695981039346656037; products are taken modulo 2^64.
use Rattle.std.specs.Prelude.{Bool, List, [], ◌∷◌, ℕ, ◌+◌, ◌*◌, ◌%◌, ◌^◌, ltb}
use Rattle.std.specs.Int.Bits.{bit_xor}

abbrev pub FNV_prime : ℕ
FNV_prime = 2 ^ 40 + 2 ^ 8 + 179

abbrev pub offset_basis : ℕ
offset_basis = 14695981039346656037

-- for each octet of data to be hashed
unfoldable pub hashed : ℕ → List ℕ → ℕ
hashed hash [] = hash
hashed hash (octet ∷ data-left) = hashed (bit_xor hash octet * FNV_prime % 2 ^ 64) data-left

unfoldable pub fnv1a : List ℕ → ℕ
fnv1a octets = hashed offset_basis octets

abbrev pub is_octet : ℕ → Bool
is_octet x = ltb x 256
