-- Laws of `gather`: one list more, the room it takes, where it ends, and what stands in it.
use mathlib.Core.Path.{◌≡◌, refl, sym, ap, ◌∙◌, subst}
use mathlib.Core.List.{List, [], ◌∷◌, ◌++◌, append-nil}
use mathlib.Core.Logic.{◌⊎◌, inl, inr, ⊎_elim}
use Prim.Native.Nat.{ℕ, zero, suc, ◌+◌, ◌*◌, ◌<◌, ◌≤◌}
use native.Mathlib.Nat.{not-suc-le-zero, suc-mul}
use native.Mathlib.Numerals.{add-one}
use native.Mathlib.Omega.{arith}
use native.Mathlib.Decide.{ℕ_discrete}
use lib.ListN.{length, length-append}
use Rattle.moves.specs.declared.Move.{Move}
use Rattle.generate.specs.Found.{gather, is_in}

module _ (f : ℕ → List Move) where
  pub gather_none : gather 0 f ≡ []
  unfolding gather
  gather_none = refl

  pub gather_one : gather 1 f ≡ f 0
  unfolding gather
  gather_one = refl

  pub gather_more : (i : ℕ) → gather (i + 1) f ≡ gather i f ++ f i
  unfolding gather
  gather_more i = rw add-one refl

  pub gather_long : (n : ℕ) → length (gather (suc n) f) ≡ length (gather n f) + length (f n)
  unfolding gather
  gather_long n = length-append (gather n f) (f n)

  -- ---- how long it is

  pub gather_up : (i n : ℕ) → i ≤ n → length (gather i f) ≤ length (gather n f)
  gather_up i zero h = let e = ap (λ (k : ℕ). length (gather k f)) (let q : i ≡ 0 = omega arith in q) in omega arith
  gather_up i (suc n) h = by_side (gather_up i n) (ℕ_discrete i (suc n))
    where
      by_side : (i ≤ n → length (gather i f) ≤ length (gather n f)) → Dec (i ≡ suc n) → length (gather i f) ≤ length (gather (suc n) f)
      by_side before (yes q) = let e = ap (λ (k : ℕ). length (gather k f)) q in omega arith
      by_side before (no d) = let b = before (omega arith) in let l = gather_long n in omega arith

  -- list i stands whole in it
  pub gather-room : (i n : ℕ) → i < n → length (gather i f) + length (f i) ≤ length (gather n f)
  gather-room i n h = let u = gather_up (suc i) n h in let l = gather_long i in omega arith

  pub gather_most : (n c : ℕ) → ((k : ℕ) → k < n → length (f k) ≤ c) → length (gather n f) ≤ n * c
  gather_most zero c h = let e = ap length gather_none in omega arith
  gather_most (suc n) c h =
      let b = gather_most n c (λ k l. h k (omega arith)) in
      let l = gather_long n in
      let m = suc-mul n c in
      let w = h n (omega arith) in
      omega arith

  -- one of the lists is empty
  pub gather_but_one : (n c i : ℕ) → i < n → f i ≡ [] → ((k : ℕ) → k < n → length (f k) ≤ c) → length (gather n f) + c ≤ n * c
  gather_but_one zero c i h e w = absurd (not-suc-le-zero h)
  gather_but_one (suc n) c i h e w = by_side (gather_but_one n c i) (ℕ_discrete i n)
    where
      by_side : (i < n → f i ≡ [] → ((k : ℕ) → k < n → length (f k) ≤ c) → length (gather n f) + c ≤ n * c) → Dec (i ≡ n)
          → length (gather (suc n) f) + c ≤ suc n * c
      by_side before (yes q) =
          let b = gather_most n c (λ k l. w k (omega arith)) in
          let l = gather_long n in
          let m = suc-mul n c in
          let z = ap (λ (k : ℕ). length (f k)) (sym q) ∙ ap length e in
          omega arith
      by_side before (no d) =
          let b = before (omega arith) e (λ k l. w k (omega arith)) in
          let l = gather_long n in
          let m = suc-mul n c in
          let v = w n (omega arith) in
          omega arith

  -- ---- empty lists

  pub gather_end : (m n : ℕ) → m ≤ n → ((k : ℕ) → m ≤ k → k < n → f k ≡ []) → gather n f ≡ gather m f
  gather_end m zero h e = ap (λ (k : ℕ). gather k f) (let q : 0 ≡ m = omega arith in q)
  gather_end m (suc n) h e = by_side (gather_end m n) (ℕ_discrete m (suc n))
    where
      by_side : (m ≤ n → ((k : ℕ) → m ≤ k → k < n → f k ≡ []) → gather n f ≡ gather m f) → Dec (m ≡ suc n) → gather (suc n) f ≡ gather m f
      by_side before (yes q) = ap (λ (k : ℕ). gather k f) (sym q)
      by_side before (no d) =
          ap (λ (k : ℕ). gather k f) (sym (add-one n)) ∙ gather_more n
          ∙ ap (λ (l : List Move). gather n f ++ l) (e n (omega arith) (omega arith)) ∙ append-nil (gather n f)
          ∙ before (omega arith) (λ k a b. e k a (omega arith))

  pub gather_nothing : (n : ℕ) → ((k : ℕ) → k < n → f k ≡ []) → gather n f ≡ []
  gather_nothing n e = gather_end 0 n (omega arith) (λ k a b. e k b) ∙ gather_none

  -- all lists but one are empty
  pub gather_only : (n j : ℕ) → j < n → ((k : ℕ) → k < n → (k ≡ j → ⊥) → f k ≡ []) → gather n f ≡ f j
  gather_only n j h e =
      gather_end (j + 1) n (omega arith) (λ k a b. e k b (omega arith)) ∙ gather_more j
      ∙ ap (λ (l : List Move). l ++ f j) (gather_nothing j (λ k l. e k (omega arith) (omega arith)))

-- ---- what stands in it

module _ (m : Move) where
  in_left : (s t : List Move) → is_in m s → is_in m (s ++ t)
  in_left [] t i = absurd i
  in_left (x ∷ s) t (inl e) = inl e
  in_left (x ∷ s) t (inr i) = inr (in_left s t i)

  in_right : (s t : List Move) → is_in m t → is_in m (s ++ t)
  in_right [] t i = i
  in_right (x ∷ s) t i = inr (in_right s t i)

  pub in_either : (s t : List Move) → is_in m (s ++ t) → is_in m s ⊎ is_in m t
  in_either [] t i = inr i
  in_either (x ∷ s) t (inl e) = inl (inl e)
  in_either (x ∷ s) t (inr i) = ⊎_elim (λ a. inl (inr a)) (λ b. inr b) (in_either s t i)

  pub gather_in : (f : ℕ → List Move) (n k : ℕ) → k < n → is_in m (f k) → is_in m (gather n f)
  unfolding gather
  gather_in f zero k h i = absurd (not-suc-le-zero h)
  gather_in f (suc n) k h i = by_side (gather_in f n k) (ℕ_discrete k n)
    where
      by_side : (k < n → is_in m (f k) → is_in m (gather n f)) → Dec (k ≡ n) → is_in m (gather n f ++ f n)
      by_side before (yes q) = in_right (gather n f) (f n) (subst (λ (j : ℕ). is_in m (f j)) q i)
      by_side before (no d) = in_left (gather n f) (f n) (before (omega arith) i)

  -- what follows from standing in any of the lists follows from standing in all of them together
  pub gather_by : {P : Type 0} (f : ℕ → List Move) (n : ℕ) → ((k : ℕ) → k < n → is_in m (f k) → P) → is_in m (gather n f) → P
  unfolding gather
  gather_by f zero h i = absurd i
  gather_by f (suc n) h i = ⊎_elim (λ a. gather_by f n (λ k l. h k (omega arith)) a) (λ b. h n (omega arith) b) (in_either (gather n f) (f n) i)
