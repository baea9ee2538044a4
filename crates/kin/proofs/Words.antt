-- A place's count changes in memory, and nothing else does.
use mathlib.Core.Path.{◌≡◌, ◌∙◌}
use mathlib.Core.List.{List}
use Prim.Native.Nat.{ℕ, ◌+◌, ◌*◌, ◌<◌, ◌≤◌}
use native.Mathlib.Omega.{arith}
use lib.ListN.{length, get_or, length-set}
use lib.Seq.{get_or-set_same, get_or-set_other}
use Rattle.kin.specs.Places.{parent_at, refs_at, counting}
use Rattle.kin.proofs.Marks.{But}

-- all words are the same but for the counts
pub record Alike (old new : List ℕ) : Type 0 where
  pub long : length new ≡ length old
  pub same : (i at : ℕ) → i * 5 ≤ at → at < i * 5 + 4 → get_or new at 0 ≡ get_or old at 0

pub alike_on : {first then last : List ℕ} → Alike first then → Alike then last → Alike first last
alike_on a b = record { long = b.long ∙ a.long; same = λ i at l h. b.same i at l h ∙ a.same i at l h }

pub parents_alike : {old new : List ℕ} → Alike old new → (i : ℕ) → parent_at new i ≡ parent_at old i
unfolding parent_at
parents_alike a i = a.same i (i * 5) (omega arith) (omega arith)

module _ (words : List ℕ) (i refs : ℕ) where
  pub counting_alike : Alike words (counting words i refs)
  unfolding counting
  counting_alike = record {
    long = length-set words (i * 5 + 4) refs;
    same = λ k at l h. get_or-set_other words (i * 5 + 4) at refs 0 (λ q. let w : ⊥ = omega arith in w);
  }

  pub refs_there : i * 5 + 4 < length words → refs_at (counting words i refs) i ≡ refs
  unfolding refs_at counting
  refs_there h = get_or-set_same words (i * 5 + 4) refs 0 h

  pub refs_else : (k : ℕ) → (k ≡ i → ⊥) → refs_at (counting words i refs) k ≡ refs_at words k
  unfolding refs_at counting
  refs_else k d = get_or-set_other words (i * 5 + 4) (k * 5 + 4) refs 0 (λ q. d (omega arith))

  pub refs_but : (n : ℕ) → But n i (refs_at words) (refs_at (counting words i refs))
  refs_but n = record { same = λ k l d. refs_else k d }
