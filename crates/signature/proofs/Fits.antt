-- A hash is a word of 64 bits.
use Rattle.std.proofs.Common.{ℕ, ◌*◌, ◌^◌, ◌<◌, List, [], ◌∷◌, mod-lt, lit<, pow_pos}
use Rattle.board.specs.Table.{Table}
use Rattle.signature.specs.Fnv.{xor_digits, prime, offset, fnv_step, fnv_from, fnv}
use Rattle.signature.specs.Signed.{column_hashes, words_of, signed, signature_of}

step_fits : (h x : ℕ) → fnv_step h x < 2 ^ 64
unfolding fnv_step
step_fits h x = mod-lt (xor_digits 64 h x * prime) (pow_pos 64)

hash_fits : (h : ℕ) (l : List ℕ) → h < 2 ^ 64 → fnv_from h l < 2 ^ 64
unfolding fnv_from
hash_fits h [] b = b
hash_fits h (x ∷ l) b = hash_fits (fnv_step h x) l (step_fits h x)

pub fnv_fits : (l : List ℕ) → fnv l < 2 ^ 64
unfolding fnv
fnv_fits l = hash_fits offset l (lit< tt)

pub signature_fits : (t : Table) → signature_of t < 2 ^ 64
unfolding signature_of signed
signature_fits t = fnv_fits (words_of t.foundation t.cells (column_hashes t.columns))
