-- The signature does not depend on which cell holds a card, nor on the order of the columns.
use Rattle.std.proofs.Common.{◌≡◌, ℕ, cond, eqb, List, [], length, get_or, sym, ap, ◌∙◌}
use Rattle.base.specs.Words.{listed}
use Rattle.base.proofs.Words.{occurs-listed}
use Rattle.board.specs.Table.{Table}
use Rattle.board.proofs.Records.{listed_back}
use Rattle.board.proofs.Renumbering.{sum-renumbered}
use Rattle.signature.specs.Fnv.{fnv}
use Rattle.base.specs.Rising.{rising}
use Rattle.board.specs.Renumbered.{Renumbers, renumbered}
use Rattle.signature.specs.Signed.{column_hashes, words_of, signed, signature_of}
use Rattle.base.proofs.Counted.{same_rising}
use Rattle.signature.proofs.Columns.{hashes_are}

module _ {n : ℕ} {p q : ℕ → ℕ} (r : Renumbers n p q) where
  pub rising-renumbered : (g : ℕ → ℕ) → rising (listed n (λ i. g (p i))) ≡ rising (listed n g)
  rising-renumbered g =
      same_rising (listed n (λ i. g (p i))) (listed n g)
      (λ x. occurs-listed x n (λ i. g (p i)) ∙ sum-renumbered r (λ k. cond (eqb x (g k)) 1 0) ∙ sym (occurs-listed x n g))

-- only the rising lists are hashed
pub signed_alike : (foundation cells cells' hashes hashes' : List ℕ) → rising cells ≡ rising cells' → rising hashes ≡ rising hashes'
    → signed foundation cells hashes ≡ signed foundation cells' hashes'
unfolding signed words_of
signed_alike foundation cells cells' hashes hashes' e f = cc

pub signature_renumbered : (t : Table) {p p' q q' : ℕ → ℕ} → length t.cells ≡ 4 → Renumbers 4 p p' → Renumbers 8 q q'
    → signature_of (renumbered p q t) ≡ signature_of t
unfolding signature_of renumbered column_hashes
signature_renumbered t {p} {p'} {q} {q'} four c d =
    signed_alike t.foundation _ _ _ _
    (rising-renumbered c (λ i. get_or t.cells i 0) ∙ ap rising (listed_back t.cells 4 four))
    (ap rising (sym (hashes_are (λ i. get_or t.columns (q i) []))) ∙ rising-renumbered d (λ i. fnv (get_or t.columns i [])))
