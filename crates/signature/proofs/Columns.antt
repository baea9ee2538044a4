-- The hashes of the eight columns.
use Rattle.std.proofs.Common.{◌≡◌, ℕ, List, [], get_or, sym, ap}
use Rattle.base.specs.Words.{listed}
use Rattle.base.proofs.Words.{get_or-listed, listed_same}
use Rattle.signature.specs.Fnv.{fnv}
use Rattle.signature.specs.Signed.{column_hashes}

-- the hashes are those of the columns
pub hashes_are : (f : ℕ → List ℕ) → listed 8 (λ i. fnv (f i)) ≡ column_hashes (listed 8 f)
unfolding column_hashes
hashes_are f = listed_same (λ i. fnv (f i)) (λ i. fnv (get_or (listed 8 f) i [])) 8 (λ i h. ap fnv (sym (get_or-listed f 8 i [] h)))
