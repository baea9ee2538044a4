-- What is chosen from list after list, and the first of it.
use Rattle.std.specs.Prelude.{Some, None}
use mathlib.Core.Path.{◌≡◌, refl, sym, ap, ap₂, ◌∙◌}
use mathlib.Core.Bool.{Bool, true, false, cond, ◌&&◌}
use mathlib.Core.List.{List, [], ◌∷◌, ◌++◌}
use mathlib.Core.Logic.{inl, inr}
use Prim.Native.Nat.{ℕ, zero, suc, ◌+◌, ◌<◌}
use native.Mathlib.Nat.{not-suc-le-zero}
use native.Mathlib.Numerals.{add-one}
use native.Mathlib.Omega.{arith}
use native.Mathlib.Decide.{ℕ_discrete}
use Rattle.moves.specs.declared.Move.{Move}
use Rattle.generate.specs.Found.{gather, is_in}
use Rattle.generate.proofs.Gathering.{gather_more}
use Rattle.safe.specs.Safe.{chosen, first_of}

-- ---- the first of a list

pub first_none : {l : List Move} → l ≡ [] → first_of l ≡ None
unfolding first_of
first_none e = ap first_of e

first-append : (s t : List Move) {m : Move} → first_of s ≡ Some m → first_of (s ++ t) ≡ Some m
unfolding first_of
first-append [] t e = let z : ◌≡◌ {A = ℕ} 0 1 = cc in absurd (let w : ⊥ = omega arith in w)
first-append (x ∷ s) t e = e

-- ---- what is chosen

module _ (p : Move → Bool) where
  pub chosen_one : (m : Move) (r : Bool) → chosen p (cond r (m ∷ []) []) ≡ cond (r && p m) (m ∷ []) []
  unfolding chosen
  chosen_one m true = refl
  chosen_one m false = refl

  kept : (r : Bool) (m : Move) (s t : List Move) → cond r (m ∷ (s ++ t)) (s ++ t) ≡ cond r (m ∷ s) s ++ t
  kept true m s t = refl
  kept false m s t = refl

  pub chosen-append : (s t : List Move) → chosen p (s ++ t) ≡ chosen p s ++ chosen p t
  unfolding chosen
  chosen-append [] t = refl
  chosen-append (m ∷ s) t =
      ap (λ (l : List Move). cond (p m) (m ∷ l) l) (chosen-append s t) ∙ kept (p m) m (chosen p s) (chosen p t)

  -- the first that is chosen stands in the list
  pub first_in : (l : List Move) {m : Move} → first_of (chosen p l) ≡ Some m → is_in m l
  unfolding chosen first_of
  first_in [] e = let z : ◌≡◌ {A = ℕ} 0 1 = cc in absurd (let w : ⊥ = omega arith in w)
  first_in (x ∷ l) {m} e = by_test (p x) (λ q. first_in l q) e
    where
      by_test : (r : Bool) → (first_of (chosen p l) ≡ Some m → is_in m l) → first_of (cond r (x ∷ chosen p l) (chosen p l)) ≡ Some m → is_in m (x ∷ l)
      by_test true on q = inl (cc)
      by_test false on q = inr (on q)

  -- ---- list after list

  module _ (f : ℕ → List Move) where
    chosen_more : (i : ℕ) → chosen p (gather (i + 1) f) ≡ chosen p (gather i f) ++ chosen p (f i)
    chosen_more i = ap (chosen p) (gather_more f i) ∙ chosen-append (gather i f) (f i)

    pub none_more : (i : ℕ) → chosen p (gather i f) ≡ [] → chosen p (f i) ≡ [] → chosen p (gather (i + 1) f) ≡ []
    none_more i a b = chosen_more i ∙ ap₂ (λ (s t : List Move). s ++ t) a b

    -- nothing before list i, and then a first in it
    pub first_at : (i n : ℕ) {m : Move} → i < n → chosen p (gather i f) ≡ [] → first_of (chosen p (f i)) ≡ Some m → first_of (chosen p (gather n f)) ≡ Some m
    first_at i zero h a e = absurd (not-suc-le-zero h)
    first_at i (suc n) {m} h a e = here_or_before (first_at i n) (ℕ_discrete i n)
      where
        last : first_of (chosen p (gather (suc n) f)) ≡ first_of (chosen p (gather n f) ++ chosen p (f n))
        last = ap (λ (k : ℕ). first_of (chosen p (gather k f))) (sym (add-one n)) ∙ ap first_of (chosen_more n)

        here_or_before : (i < n → chosen p (gather i f) ≡ [] → first_of (chosen p (f i)) ≡ Some m → first_of (chosen p (gather n f)) ≡ Some m) → Dec (i ≡ n)
            → first_of (chosen p (gather (suc n) f)) ≡ Some m
        here_or_before before (yes q) =
            last
            ∙ ap (λ (k : ℕ). first_of (chosen p (gather k f) ++ chosen p (f k))) (sym q)
            ∙ ap (λ (l : List Move). first_of (l ++ chosen p (f i))) a ∙ e
        here_or_before before (no d) = last ∙ first-append (chosen p (gather n f)) (chosen p (f n)) (before (omega arith) a e)
