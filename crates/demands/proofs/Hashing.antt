-- The column hash is FNV-1a as its authors describe it.
use mathlib.Core.Path.{◌≡◌, refl, ap, ◌∙◌}
use mathlib.Core.Bool.{true}
use mathlib.Core.List.{List, [], ◌∷◌}
use Prim.Native.Nat.{ℕ, ◌*◌, ◌%◌, ◌^◌, ◌<◌}
use native.Mathlib.Nat.{mod-lt}
use native.Mathlib.Omega.{arith}
use borrow.Author.Tests.{ltb-true}
use lib.Bits.{bit_xor}
use lib.Dec.{lit<}
use lib.Pow.{pow_pos}
use Rattle.base.specs.Words.{all}
use Rattle.base.proofs.Words.{first, second}
use Rattle.signature.specs.Fnv.{prime, offset, fnv_step, fnv_from, fnv}
use Rattle.signature.proofs.Digits.{xor_digits_lem}
use Rattle.demands.specs.Fnv1a.{FNV_prime, hashed, fnv1a, is_octet}

hashes : (octets : List ℕ) (h : ℕ) → h < 2 ^ 64 → all is_octet octets ≡ true → fnv_from h octets ≡ hashed h octets
unfolding fnv_from fnv_step hashed all
hashes [] h b e = refl
hashes (x ∷ l) h b e =
    let small = ltb-true x 256 (first (is_octet x) (all is_octet l) e) in
    ap (λ (y : ℕ). fnv_from (y * prime % 2 ^ 64) l) (xor_digits_lem 64 h x b (omega arith))
    ∙ hashes l (bit_xor h x * FNV_prime % 2 ^ 64) (mod-lt (bit_xor h x * FNV_prime) (pow_pos 64)) (second (is_octet x) (all is_octet l) e)

pub hash_is : (octets : List ℕ) → all is_octet octets ≡ true → fnv octets ≡ fnv1a octets
unfolding fnv fnv1a
hash_is octets e = hashes octets offset (lit< tt) e
