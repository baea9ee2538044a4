-- A part of a list, one element more at a time.
use mathlib.Core.Path.{◌≡◌, refl, sym, ap, ◌∙◌}
use mathlib.Core.List.{List, [], ◌∷◌}
use Prim.Native.Nat.{ℕ, suc, ◌+◌, ◌<◌, ◌≤◌}
use native.Mathlib.Numerals.{add-one}
use native.Mathlib.Omega.{arith}
use lib.ListN.{length, get_or, take, drop}
use lib.Seq.{drop-cons}

pub take_next : (n at j : ℕ) (l : List ℕ) → j ≡ at + 1 → at < length l → take (suc n) (drop at l) ≡ get_or l at 0 ∷ take n (drop j l)
take_next n at j l e h =
    ap (take (suc n)) (drop-cons l at 0 h) ∙ ap (λ (k : ℕ). get_or l at 0 ∷ take n (drop k l)) (sym (add-one at) ∙ sym e)

pub take_four : (l : List ℕ) (at : ℕ) → at + 4 ≤ length l
    → get_or l at 0 ∷ get_or l (at + 1) 0 ∷ get_or l (at + 2) 0 ∷ get_or l (at + 3) 0 ∷ [] ≡ take 4 (drop at l)
take_four l at h =
    sym
    (take_next 3 at (at + 1) l refl (omega arith)
    ∙ ap (λ (m : List ℕ). get_or l at 0 ∷ m)
    (take_next 2 (at + 1) (at + 2) l (omega arith) (omega arith)
    ∙ ap (λ (m : List ℕ). get_or l (at + 1) 0 ∷ m)
    (take_next 1 (at + 2) (at + 3) l (omega arith) (omega arith)
    ∙ ap (λ (m : List ℕ). get_or l (at + 2) 0 ∷ m) (take_next 0 (at + 3) (at + 4) l (omega arith) (omega arith)))))

pub four_long : (l four : List ℕ) (at : ℕ) → at + 4 ≤ length l → four ≡ take 4 (drop at l) → length four ≡ 4
four_long l four at h e = ap length (e ∙ sym (take_four l at h))
