-- A suit's words, hashed in two steps: its mark, then the codes of its cards that are home.
use Rattle.std.proofs.Common.{◌≡◌, ℕ, ◌+◌, ◌∷◌, ◌∙◌}
use Rattle.board.specs.Table.{pile}
use Rattle.signature.specs.Fnv.{fnv_step, fnv_from}
use Rattle.signature.proofs.Hashing.{hash_next}

pub home_words_lem : (h i : ℕ) {marked n count r : ℕ} → marked ≡ fnv_step h (i + 256) → n ≡ count → r ≡ fnv_from marked (pile i n)
    → r ≡ fnv_from h ((i + 256) ∷ pile i count)
home_words_lem h i {marked} {n} {count} e f p = p ∙ (let g = hash_next h (i + 256) (pile i count) in cc)
