-- Values that the authors of FNV publish, the hash of the whole pack, and one signature: the definitions are evaluated.
use Rattle.std.proofs.Common.{◌≡◌, [], ◌∷◌, refl}
use Rattle.card.specs.Pack.{card_at}
use Rattle.base.specs.Words.{listed, concat}
use Rattle.board.specs.Table.{pile}
use Rattle.signature.specs.Fnv.{xor_digits, fnv_step, fnv_from, fnv}
use Rattle.base.specs.Rising.{placed, rising}
use Rattle.signature.specs.Signed.{home_words, column_hashes, words_of, signed, signature_of}

-- no octet: cbf29ce484222325
pub fnv_none : fnv [] ≡ 14695981039346656037
unfolding fnv fnv_from
fnv_none = refl

-- "a": af63dc4c8601ec8c
pub fnv_a : fnv (97 ∷ []) ≡ 12638187200555641996
unfolding fnv fnv_from fnv_step xor_digits
fnv_a = refl

-- "foobar": 85944171f73967e8
pub fnv_foobar : fnv (102 ∷ 111 ∷ 111 ∷ 98 ∷ 97 ∷ 114 ∷ []) ≡ 9625390261332436968
unfolding fnv fnv_from fnv_step xor_digits
fnv_foobar = refl

-- 52 octets, the codes of the pack
pub fnv-pack : fnv (listed 52 card_at) ≡ 5620842660976552641
unfolding fnv fnv_from fnv_step xor_digits listed card_at
fnv-pack = refl

-- a signature: all home but the king of spades, which lies in column 0
pub signature_last : signature_of (record { cells = 255 ∷ 255 ∷ 255 ∷ 255 ∷ []; foundation = 13 ∷ 13 ∷ 13 ∷ 12 ∷ []; columns = (211 ∷ []) ∷ [] ∷ [] ∷ [] ∷ [] ∷ [] ∷ [] ∷ [] ∷ [] }) ≡ 11806600044121602284
unfolding signature_of signed words_of column_hashes home_words pile concat listed rising placed fnv fnv_from fnv_step xor_digits
signature_last = refl
