-- The last card of a column or of a cell, where it can go home.
use mathlib.Core.Path.{◌≡◌, refl, sym, ap, ◌∙◌}
use mathlib.Core.Bool.{false}
use mathlib.Core.List.{List, [], ◌∷◌}
use Prim.Native.Nat.{ℕ, zero, suc, ◌-◌}
use native.Mathlib.Omega.{arith}
use lib.ListN.{length, get_or}
use Rattle.std.proofs.Common.{Some, None}
use Rattle.std.specs.List.{slice_get}
use Rattle.base.proofs.Lists.{last_of_some, last_of_none}
use Rattle.board.specs.Table.{held}
use Rattle.board.proofs.Tables.{cell_empty, cell_card}
use Rattle.rules.specs.Fit.{home_takes}
use Rattle.features.specs.Features.{last_goes_home}

-- ---- the last card

pub last_none : (foundation l : List ℕ) → length l ≡ 0 → last_goes_home foundation l ≡ false
unfolding last_goes_home
last_none foundation [] e = refl
last_none foundation (x ∷ l) e = absurd (let z : ⊥ = omega arith in z)

pub last_some : (foundation l : List ℕ) (n : ℕ) → length l ≡ suc n → last_goes_home foundation l ≡ home_takes foundation (get_or l n 0)
unfolding last_goes_home
last_some foundation [] n e = absurd (let z : ⊥ = omega arith in z)
last_some foundation (x ∷ []) zero e = refl
last_some foundation (x ∷ []) (suc n) e = absurd (let z : ⊥ = omega arith in z)
last_some foundation (x ∷ y ∷ l) zero e = absurd (let z : ⊥ = omega arith in z)
last_some foundation (x ∷ y ∷ l) (suc n) e = last_some foundation (y ∷ l) n (omega arith)

-- ---- of a column, as `last` gives it

module _ (foundation l : List ℕ) where
  pub column_none : None ≡ slice_get l (length l - 1) → false ≡ last_goes_home foundation l
  column_none e = sym (last_none foundation l (last_of_none l e))

  pub column_last : (x : ℕ) → Some x ≡ slice_get l (length l - 1) → home_takes foundation x ≡ last_goes_home foundation l
  column_last x e =
      let t = last_of_some l x e in
      sym (last_some foundation l (length l - 1) (omega arith) ∙ ap (home_takes foundation) t.1)

-- ---- of a cell

module _ (foundation : List ℕ) (x : ℕ) where
  pub cell_none : x ≡ 255 → false ≡ last_goes_home foundation (held (x ∷ []))
  cell_none e = sym (last_none foundation (held (x ∷ [])) (ap length (cell_empty x e)))

  pub cell_last : (x ≡ 255 → ⊥) → home_takes foundation x ≡ last_goes_home foundation (held (x ∷ []))
  cell_last d = sym (ap (last_goes_home foundation) (cell_card x d) ∙ last_some foundation (x ∷ []) 0 refl)
