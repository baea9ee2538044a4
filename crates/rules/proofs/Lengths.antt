-- On an occupied column at most one length of a run fits: values fall by one in a run, so two top cards tell which.
-- Of the rule of the game only `follows_falls` is used: the card that may lie on another is one less in value.
use mathlib.Core.Path.{◌≡◌, refl, sym, ap, ◌∙◌}
use mathlib.Core.Bool.{true}
use mathlib.Core.List.{List, [], ◌∷◌}
use Prim.Native.Nat.{ℕ, zero, suc, ◌+◌, ◌-◌, ◌/◌, ◌<◌}
use native.Mathlib.Omega.{arith}
use borrow.Author.Tests.{le-leb, eqb-true}
use lib.Dec.{eqb}
use lib.ListN.{length, get_or, drop, length-drop}
use lib.Seq.{get_or-drop}
use Rattle.base.proofs.Words.{first, second}
use Rattle.runs.specs.Follows.{follows}
use Rattle.runs.specs.Run.{is_run, run_length}
use Rattle.rules.specs.Inner.{top_value}
use Rattle.rules.proofs.Laying.{run_top, run_at_most, last_of_none, last_of_some}
use Rattle.std.proofs.Common.{Some, None}
use Rattle.std.specs.List.{slice_get}

pub follows_falls : (upper lower : ℕ) → follows upper lower ≡ true → upper / 16 ≡ lower / 16 + 1
unfolding follows
follows_falls upper lower e = eqb-true (upper / 16) (lower / 16 + 1) (first (eqb (upper / 16) (lower / 16 + 1)) _ e)

run_falls : (l : List ℕ) → is_run l ≡ true → (k : ℕ) → k < length l → get_or l 0 0 / 16 ≡ get_or l k 0 / 16 + k
unfolding is_run
run_falls [] e k h = absurd (let z : ⊥ = omega arith in z)
run_falls (x ∷ []) e k h = let q = ap (λ (n : ℕ). get_or (x ∷ []) n 0 / 16) (let z : k ≡ 0 = omega arith in z) in omega arith
run_falls (x ∷ y ∷ l) e zero h = omega arith
run_falls (x ∷ y ∷ l) e (suc k) h =
    let f = follows_falls x y (first (follows x y) (is_run (y ∷ l)) e) in
    let r = run_falls (y ∷ l) (second (follows x y) (is_run (y ∷ l)) e) k (omega arith) in
    omega arith

module _ (l : List ℕ) where
  -- the deepest card of the last n
  abbrev pub under : ℕ → ℕ
  under n = get_or l (length l - n) 0

  -- within the run the card under k others is k more in value than the top
  pub run_value : (k : ℕ) → k < run_length l → under (suc k) / 16 ≡ top_value l + k
  unfolding top_value
  run_value k h =
      let most = run_at_most l in
      let at : ℕ = length l - suc k in
      let d = length-drop at l in
      let run : is_run (drop at l) ≡ true = run_top l at (omega arith) ∙ le-leb (length l - at) (run_length l) (omega arith) in
      let f = run_falls (drop at l) run k (omega arith) in
      let a = ap (λ (x : ℕ). x / 16) (get_or-drop at l 0 0 ∙ ap (λ (n : ℕ). get_or l n 0) (let q : at + 0 ≡ length l - suc k = omega arith in q)) in
      let b = ap (λ (x : ℕ). x / 16) (get_or-drop at l k 0 ∙ ap (λ (n : ℕ). get_or l n 0) (let q : at + k ≡ length l - 1 = omega arith in q)) in
      omega arith

  -- the length that fits is the difference of the two values
  pub only_length : (y k : ℕ) → k < run_length l → follows y (under (suc k)) ≡ true → y / 16 ≡ top_value l + suc k
  only_length y k h e = let f = follows_falls y (under (suc k)) e in let v = run_value k h in omega arith

  -- so two lengths within a run never both fit
  pub one_length : (y k m : ℕ) → k < run_length l → m < run_length l → follows y (under (suc k)) ≡ true → follows y (under (suc m)) ≡ true → k ≡ m
  one_length y k m h i e f = let a = only_length y k h e in let b = only_length y m i f in omega arith

pub no_value : (l : List ℕ) → None ≡ slice_get l (length l - 1) → 0 ≡ top_value l
unfolding top_value
no_value l e = rw (last_of_none l e) refl

pub last_value : (l : List ℕ) (x : ℕ) → Some x ≡ slice_get l (length l - 1) → x / 16 ≡ top_value l
unfolding top_value
last_value l x e = ap (λ (y : ℕ). y / 16) (sym (last_of_some l x e).1)
