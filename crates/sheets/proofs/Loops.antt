-- What the loops know: a total taken down word by word, deals counted.
use mathlib.Core.Path.{◌≡◌, sym, ap, ◌∙◌, subst}
use mathlib.Core.Bool.{Bool, true, false, cond}
use mathlib.Core.List.{List}
use Prim.Native.Nat.{ℕ, zero, suc, ◌+◌, ◌-◌, ◌<◌, ◌≤◌}
use native.Mathlib.Numerals.{add-one}
use native.Mathlib.Omega.{arith}
use borrow.Author.Tests.{ne_eqb}
use lib.Dec.{eqb}
use Rattle.base.specs.Words.{sum}
use Rattle.base.proofs.Sums.{sum_none, sum_next}
use Rattle.sheets.specs.Over.{over}
use Rattle.sheets.specs.Good.{covered, deals}

pub record Taken (f : ℕ → ℕ) (words total left i : ℕ) : Type 0 where
  pub within : i ≤ words
  pub rest : sum i f + left ≡ total

sum_more : (f : ℕ → ℕ) (i n : ℕ) → sum i f ≤ sum (i + n) f
sum_more f i zero = subst (λ (x : ℕ). sum i f ≤ sum x f) (let q : i ≡ i + 0 = omega arith in q) (omega arith)
sum_more f i (suc n) =
    let e = sum_more f i n in
    subst (λ (x : ℕ). sum i f ≤ sum x f) (let q : i + n + 1 ≡ i + suc n = omega arith in q) (let s = sum_next f (i + n) in omega arith)

sum_upto : (f : ℕ → ℕ) (i n : ℕ) → i ≤ n → sum i f ≤ sum n f
sum_upto f i n h = subst (λ (x : ℕ). sum i f ≤ sum x f) (let q : i + (n - i) ≡ n = omega arith in q) (sum_more f i (n - i))

pub taken_none : (f : ℕ → ℕ) (words total : ℕ) → Taken f words total total 0
taken_none f words total = record { within = omega arith; rest = let s = sum_none f in omega arith }

module _ {f : ℕ → ℕ} {words total left i : ℕ} (t : Taken f words total left i) where
  pub taken_more : {rest : ℕ} → i < words → f i + rest ≡ left → Taken f words total rest (i + 1)
  taken_more h l = let r = t.rest in let s = sum_next f i in record { within = omega arith; rest = omega arith }

  pub taken_over : i < words → left < f i → false ≡ eqb (sum words f) total
  taken_over h l =
      let r = t.rest in
      let s = sum_next f i in
      let u = sum_upto f (i + 1) words (omega arith) in
      sym (ne_eqb (sum words f) total (λ q. let w : ⊥ = omega arith in w))

-- ---- deals counted

pub record Counted (a : List ℕ) (count i : ℕ) : Type 0 where
  pub within : i ≤ 32000
  pub most : count ≤ i
  pub upto : count ≡ sum i (λ k. cond (covered a (suc k)) 1 0)

pub counted_none : (a : List ℕ) → Counted a 0 0
counted_none a = record { within = omega arith; most = omega arith; upto = sym (sum_none (λ k. cond (covered a (suc k)) 1 0)) }

module _ {a : List ℕ} {count i : ℕ} (c : Counted a count i) where
  next : (t : Bool) → covered a (i + 1) ≡ t → sum (i + 1) (λ k. cond (covered a (suc k)) 1 0) ≡ count + cond t 1 0
  next t e =
      sum_next (λ k. cond (covered a (suc k)) 1 0) i
      ∙ (let u = c.upto in
      let v : ◌≡◌ {A = ℕ} (cond (covered a (suc i)) 1 0) (cond t 1 0) = ap (λ (x : Bool). cond x 1 0) (ap (covered a) (sym (add-one i)) ∙ e) in
      omega arith)

  pub counted_one : i < 32000 → covered a (i + 1) ≡ true → Counted a (count + 1) (i + 1)
  counted_one h e = let m = c.most in record { within = omega arith; most = omega arith; upto = sym (next true e) }

  pub counted_not : i < 32000 → covered a (i + 1) ≡ false → Counted a count (i + 1)
  counted_not h e = let m = c.most in let n = next false e in record { within = omega arith; most = omega arith; upto = omega arith }

  pub counted_end : 32000 ≤ i → count ≡ deals a
  unfolding deals over
  counted_end h =
      let b = c.within in
      c.upto ∙ ap (λ (x : ℕ). sum x (λ k. cond (covered a (suc k)) 1 0)) (let q : i ≡ 32000 = omega arith in q)
