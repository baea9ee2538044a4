-- std's words for lists beside this repository's: what a chain of iterators gives is a sum, a test or a list place by place.
use mathlib.Core.Path.{◌≡◌, refl, sym, ap, ◌∙◌, subst}
use mathlib.Core.Bool.{Bool, ◌&&◌}
use mathlib.Core.List.{List, [], ◌∷◌, map}
use Prim.Native.Nat.{ℕ, zero, suc, ◌+◌, ◌-◌, ◌<◌, ◌≤◌}
use native.Mathlib.Numerals.{add-one}
use native.Mathlib.Omega.{arith}
use native.Mathlib.Decide.{ℕ_discrete}
use lib.ListN.{length, get_or}
use Rattle.std.proofs.Common.{Option, Some, None}
use Rattle.std.specs.Bool.{⊤}
use Rattle.std.specs.List.{range_with_len, sum_by, list_all, fold, slice_get}
use denote.Param.Members.{Mut, Called}
use Rattle.std.specs.Array.{IsFromFnResultFrom, IsFromFnResult, IsMapOf}
use Rattle.std.specs.Iterator.{Drains}
use Rattle.std.specs.Iterator.Runs.{EachRunFrom}
use Rattle.std.proofs.lemmas.Iterator.{YieldsList}
use Rattle.std.proofs.lemmas.Iterator.Consumers.{sum_by_from_yields_List, fits_by_from_yields_list}
use Rattle.std.proofs.lemmas.Option.{none-some, slice_get-get_or, slice_get_within, get_or_from_slice_get}
use Rattle.std.proofs.lemmas.Grind.{same_number_lists}
use Rattle.std.proofs.lemmas.List.Sums.{sum_by-cons}
use Rattle.std.proofs.lemmas.List.FromFn.{fill_by_all, length-range_with_len, get_or-range_with_len, map-range_with_len_more}
use Rattle.base.specs.Words.{every, all, listed, sum}
use Rattle.base.proofs.Words.{all-every}
use Rattle.base.proofs.Sums.{sum_first, sum_same}

-- ---- over the elements of a list of n

sum_by_all : (f : ℕ → ℕ) (s : List ℕ) → sum_by f s ≡ sum (length s) (λ k. f (get_or s k 0))
unfolding sum
sum_by_all f [] = refl
sum_by_all f (x ∷ s) =
    sum_by-cons f x s ∙ ap (λ (m : ℕ). f x + m) (sum_by_all f s) ∙ sym (sum_first (λ k. f (get_or (x ∷ s) k 0)) (length s))

pub sum_by-places : (f : ℕ → ℕ) (s : List ℕ) {n : ℕ} → length s ≡ n → sum_by f s ≡ sum n (λ k. f (get_or s k 0))
sum_by-places f s e = sum_by_all f s ∙ ap (λ (m : ℕ). sum m (λ k. f (get_or s k 0))) e

pub list_all-all : (p : ℕ → Bool) (s : List ℕ) → list_all p s ≡ all p s
unfolding all
list_all-all p [] = refl
list_all-all p (x ∷ s) = ap (λ (b : Bool). p x && b) (list_all-all p s)

pub list_all-places : (p : ℕ → Bool) (s : List ℕ) {n : ℕ} → length s ≡ n → list_all p s ≡ every n (λ k. p (get_or s k 0))
list_all-places p s e = list_all-all p s ∙ sym (all-every p s) ∙ ap (λ (m : ℕ). every m (λ k. p (get_or s k 0))) e

-- ---- over the numbers 0 to n - 1

pub map-range : {A : Type 0} (f : ℕ → A) (n : ℕ) → map f (range_with_len 0 n) ≡ listed n f
unfolding listed
map-range f zero = refl
map-range f (suc n) =
    ap (λ (m : ℕ). map f (range_with_len 0 m)) (sym (add-one n)) ∙ map-range_with_len_more f 0 n n (omega arith)
    ∙ (let e = map-range f n in cc)

pub sum_by-range : (f : ℕ → ℕ) (n : ℕ) → sum_by f (range_with_len 0 n) ≡ sum n f
sum_by-range f n =
    sum_by-places f (range_with_len 0 n) (length-range_with_len 0 n)
    ∙ sum_same (λ k. f (get_or (range_with_len 0 n) k 0)) f n (λ k h. ap f (let e = get_or-range_with_len 0 n k 0 h in omega arith))

-- a chain `(0..n).map(h)` summed: what it gives, and that it fits
pub sum_from_range : {S : Type 0} {steps : S → Option ℕ → S → Type 0} (h : ℕ → ℕ) (n : ℕ) (s : S) (r : ℕ)
    → ((xs : List ℕ) × (⊤ → Drains steps s xs) × (r ≡ fold (λ a x. a + x) 0 xs)) → YieldsList steps (λ x. x) s (map h (range_with_len 0 n)) → r ≡ sum n h
sum_from_range h n s r ran chain = sum_by_from_yields_List h (range_with_len 0 n) s r ran chain ∙ sum_by-range h n

pub fits_from_range : {S : Type 0} {steps : S → Option ℕ → S → Type 0} (h : ℕ → ℕ) (n : ℕ) (s : S) (top : ℕ)
    → YieldsList steps (λ x. x) s (map h (range_with_len 0 n)) → sum n h < top → EachRunFrom steps s (λ p. fold (λ a x. a + x) 0 p.items < top)
fits_from_range h n s top chain b = fits_by_from_yields_list h (range_with_len 0 n) s top chain (let e = sum_by-range h n in omega arith)

-- ---- arrays made by a closure that keeps its state

-- of `array::from_fn`
module _ {F : Type 0} (g : Mut F (ℕ × Unit {0}) ℕ) (h : ℕ → ℕ) (f : F) (each_is : (i : ℕ) (y : ℕ) (q : F) → Called g f (i, tt) y q → (q ≡ f) × (y ≡ h i)) where
  from_place : (ys : List ℕ) (i n : ℕ) (p : F) → p ≡ f → IsFromFnResultFrom g p ys i n → (k : ℕ) → i ≤ k → k < i + n → get_or ys k 0 ≡ h k
  from_place ys i zero p e r k a b = absurd (let w : ⊥ = omega arith in w)
  from_place ys i (suc n) p e r k a b =
      here_or_later (r.2.1 0 ∙ called.1) (from_place ys (i + 1) n r.0 called.0 r.4 k) (ℕ_discrete k i)
    where
      called : (r.0 ≡ f) × (r.1 ≡ h i)
      called = each_is i r.1 r.0 (subst (λ (z : F). Called g z (i, tt) r.1 r.0) e r.3)

      here_or_later : get_or ys i 0 ≡ h i → (i + 1 ≤ k → k < i + 1 + n → get_or ys k 0 ≡ h k) → Dec (k ≡ i) → get_or ys k 0 ≡ h k
      here_or_later here later (yes q) = subst (λ (m : ℕ). get_or ys m 0 ≡ h m) (sym q) here
      here_or_later here later (no d) = later (omega arith) (omega arith)

  pub from_fn_listed : (ys : List ℕ) (n : ℕ) → IsFromFnResult g f ys n → ys ≡ listed n h
  from_fn_listed ys n r =
      fill_by_all h ys n 0 r.long (λ k l. from_place ys 0 n f refl r.each k (omega arith) (omega arith)) ∙ map-range h n

-- of an array's `map` by a function that leaves each number as it is
pub map_same : {F : Type 0} (g : Mut F (ℕ × Unit {0}) ℕ) (f : F) (xs ys : List ℕ) (n : ℕ) → length xs ≡ n → IsMapOf g f xs ys n
    → ((p q : F) (x y : ℕ) → Called g p (x, tt) y q → y ≡ x) → ys ≡ xs
map_same g f xs ys n e r same =
    same_number_lists ys xs (r.long ∙ sym e) (λ k l. let c = r.at k 0 0 (let m = r.long in omega arith) in same c.0 c.1 _ _ c.2)

-- ---- the last element, as `last` gives it

pub last_of_some : (s : List ℕ) (x : ℕ) → Some x ≡ slice_get s (length s - 1) → (length s - 1 < length s) × (get_or s (length s - 1) 0 ≡ x)
last_of_some s x e = (slice_get_within s (length s - 1) x (sym e), get_or_from_slice_get s (length s - 1) x 0 (sym e))

pub last_of_none : (s : List ℕ) → None ≡ slice_get s (length s - 1) → length s ≡ 0
last_of_none [] e = refl
last_of_none (x ∷ s) e = absurd (none-some _ (e ∙ slice_get-get_or (x ∷ s) (length (x ∷ s) - 1) 0 (omega arith)))
