-- Cleared memory: how long it is, what it reads, and what tells it.
use mathlib.Core.Path.{◌≡◌, refl, sym, ap, ◌∙◌}
use mathlib.Core.List.{List}
use Prim.Native.Nat.{ℕ, zero, suc}
use lib.ListN.{length, get_or, replicate}
use Rattle.std.specs.List.{All}
use Rattle.std.proofs.lemmas.List.{length-replicate, ext_get_or}
use Rattle.base.specs.Blank.{blank}

pub blank_long : (old : List ℕ) → length (blank old) ≡ length old
unfolding blank
blank_long old = length-replicate (length old) 0

-- what stands nowhere reads 0 as well
pub blank_reads : (old : List ℕ) (i : ℕ) → get_or (blank old) i 0 ≡ 0
unfolding blank
blank_reads old i = zeros (length old) i
  where
    zeros : (n k : ℕ) → get_or (replicate {A = ℕ} n 0) k 0 ≡ 0
    zeros zero k = refl
    zeros (suc n) zero = refl
    zeros (suc n) (suc k) = zeros n k

-- lists of one length are cleared alike
pub blank_same : (a b : List ℕ) → length a ≡ length b → blank a ≡ blank b
unfolding blank
blank_same a b e = ap (λ (n : ℕ). replicate {A = ℕ} n 0) e

-- what `clear` promises of bytes and words: their default is 0, whatever their width
pub cleared : (old new : List ℕ) → length new ≡ length old → All (λ x. x ≡ 0) new → new ≡ blank old
cleared old new e a = ext_get_or 0 new (blank old) (e ∙ sym (blank_long old)) (λ k h. a k 0 h ∙ sym (blank_reads old k))
