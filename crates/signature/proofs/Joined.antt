-- The words of the signature one part after the other, as the code takes them.
use Rattle.std.proofs.Common.{◌≡◌, ℕ, List, ◌∷◌, ◌++◌}
use Rattle.base.specs.Words.{listed, concat}
use Rattle.signature.specs.Fnv.{offset, fnv_step, fnv_from, fnv}
use Rattle.base.specs.Rising.{rising}
use Rattle.signature.specs.Signed.{home_words, words_of, signed}
use Rattle.signature.proofs.Hashing.{hash_append, hash_next}

pub signed_by : (foundation cells hashes : List ℕ) {homes m w n r : ℕ} {held lie : List ℕ}
    → homes ≡ fnv (concat (listed 4 (home_words foundation)))
    → m ≡ fnv_step homes 253
    → held ≡ rising cells
    → w ≡ fnv_from m held
    → n ≡ fnv_step w 254
    → lie ≡ rising hashes
    → r ≡ fnv_from n lie
    → r ≡ signed foundation cells hashes
unfolding signed words_of fnv
signed_by foundation cells hashes {homes} {m} {w} {n} a b c d e f g =
    let after-homes = hash_append offset (concat (listed 4 (home_words foundation))) (253 ∷ (rising cells ++ (254 ∷ rising hashes))) in
    let mark = hash_next homes 253 (rising cells ++ (254 ∷ rising hashes)) in
    let after-cells = hash_append m (rising cells) (254 ∷ rising hashes) in
    let second-mark = hash_next w 254 (rising hashes) in
    cc
