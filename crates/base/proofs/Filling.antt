-- An array by what stands at each place: filled place by place, or by `array::from_fn`.
use mathlib.Core.Path.{◌≡◌, refl, sym, ap, ◌∙◌}
use mathlib.Core.List.{List}
use Prim.Native.Nat.{ℕ, ◌+◌, ◌<◌, ◌≤◌}
use native.Mathlib.Numerals.{add-one}
use native.Mathlib.Omega.{arith}
use lib.ListN.{length, get_or, take, set, length-set}
use lib.Seq.{take_all, take-suc-set}
use denote.Param.Members.{Mut, Called}
use Rattle.std.specs.Array.{IsFromFnResult}
use Rattle.base.specs.Words.{listed}
use Rattle.base.proofs.Words.{listed_more, listed_by}

-- the first i of n places are filled by f
pub record Filled (f : ℕ → ℕ) (n : ℕ) (s : List ℕ) (i : ℕ) : Type 0 where
  pub within : i ≤ n
  pub long : length s ≡ n
  pub upto : take i s ≡ listed i f

module _ (f : ℕ → ℕ) {n : ℕ} where
  pub filled_none : {s : List ℕ} → length s ≡ n → Filled f n s 0
  unfolding listed
  filled_none l = record { within = omega arith; long = l; upto = refl }

  pub filled_more : {s : List ℕ} {i v : ℕ} → Filled f n s i → i < n → v ≡ f i → Filled f n (set s i v) (i + 1)
  filled_more {s} {i} {v} a h e =
      let l = a.long in
      let in-s : i < length s = omega arith in
      record {
        within = omega arith;
        long = length-set s i v ∙ l;
        upto = ap (λ (k : ℕ). take k (set s i v)) (add-one i) ∙ take-suc-set s i v in-s
            ∙ (let u = a.upto in let m = listed_more f i in cc);
      }

  pub filled_end : {s : List ℕ} {i : ℕ} → Filled f n s i → n ≤ i → s ≡ listed n f
  filled_end {s} {i} a h =
      let l = a.long in
      let w = a.within in
      sym (take_all i s (omega arith)) ∙ a.upto ∙ ap (λ (k : ℕ). listed k f) (let q : i ≡ n = omega arith in q)

-- what `array::from_fn` made, where each call gives what f does
pub listed_calls : {F : Type 0} {g : Mut F (ℕ × Unit {0}) ℕ} {call : F} {s : List ℕ} {n : ℕ} (f : ℕ → ℕ) → IsFromFnResult g call s n
    → ((k x : ℕ) (before after : F) → k < n → Called g before (k, tt) x after → x ≡ f k) → s ≡ listed n f
listed_calls {s = s} {n = n} f made each =
    listed_by f n s made.long (λ k h. let at = made.at k 0 h in each k (get_or s k 0) at.0 at.1 h at.2)
