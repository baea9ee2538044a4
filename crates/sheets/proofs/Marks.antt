-- The shortest and the longest won list, as least keys.
use mathlib.Core.Path.{◌≡◌, refl, sym, ap, ap₂, ◌∙◌, subst}
use mathlib.Core.Bool.{Bool, true, false, cond, ◌&&◌, ◌||◌}
use mathlib.Core.Logic.{◌⊎◌, inl, inr}
use Prim.Native.Nat.{ℕ, zero, suc, min, ◌/◌, ◌%◌, ◌<◌, ◌≤◌}
use native.Mathlib.Nat.{not-suc-le-zero}
use native.Mathlib.Omega.{arith}
use native.Mathlib.Decide.{ℕ_discrete, dec_lt, dec_le}
use borrow.Author.Count.{below_more}
use borrow.Author.Tests.{ne_eqb, lt-ltb}
use lib.Dec.{eqb}
use Rattle.base.proofs.Words.{both}
use Rattle.sheets.specs.declared.Side.{Side}
use Rattle.sheets.specs.declared.Side.TheVariants.{Shortest as shortest, Longest as longest}
use Rattle.sheets.specs.Figures.{mark_list, mark_deal}
use Rattle.sheets.specs.Over.{Settings, Result, won, behind, key_of, no_key, least, best_key, key_list, key_deal, figure_over, sheet_over}
use Rattle.sheets.specs.Adding.{key_in}
use Rattle.sheets.proofs.Reading.{words_tell}

-- ---- behind

pub behind_most : (e : Side) (m : ℕ) → m ≤ 200 → behind e m ≤ 200
behind_most shortest m h = h
behind_most longest m h = omega arith

pub behind_twice : (e : Side) (m : ℕ) → m ≤ 200 → behind e (behind e m) ≡ m
behind_twice shortest m h = refl
behind_twice longest m h = omega arith

-- ---- leasts

pub least_none : (n : ℕ) (f : ℕ → ℕ) → least n f ≤ no_key
unfolding least
least_none zero f = omega arith
least_none (suc n) f = let i = least_none n f in omega arith

pub least_below : (n : ℕ) (f : ℕ → ℕ) (i : ℕ) → i < n → least n f ≤ f i
unfolding least
least_below zero f i h = absurd (not-suc-le-zero h)
least_below (suc n) f i h =
    below_more (λ (k : ℕ). min (least n f) (f n) ≤ f k) n (λ k l. let b = least_below n f k l in omega arith) (omega arith) i (omega arith)

pub least_is : (n : ℕ) (f : ℕ → ℕ) → (least n f ≡ no_key) ⊎ ((i : ℕ) × (i < n) × (least n f ≡ f i))
unfolding least
least_is zero f = inl refl
least_is (suc n) f = by_last (least_is n f) (dec_le (least n f) (f n))
  where
    by_last :
        (least n f ≡ no_key) ⊎ ((i : ℕ) × (i < n) × (least n f ≡ f i)) → Dec (least n f ≤ f n)
        → (min (least n f) (f n) ≡ no_key) ⊎ ((i : ℕ) × (i < suc n) × (min (least n f) (f n) ≡ f i))
    by_last (inl e) (yes h) = inl (omega arith)
    by_last (inr b) (yes h) = let l = b.1 in let e = b.2 in inr (b.0, omega arith, omega arith)
    by_last b (no h) = inr (n, omega arith, omega arith)

-- what is above every key is no matter
pub least_same : (f g : ℕ → ℕ) (n : ℕ) → ((k : ℕ) → k < n → min (f k) no_key ≡ min (g k) no_key) → least n f ≡ least n g
unfolding least
least_same f g zero h = refl
least_same f g (suc n) h =
    let e = least_same f g n (λ k l. h k (omega arith)) in
    let a = least_none n f in
    omega (arith, h n (omega arith))

pub least_two : (f g : ℕ → ℕ) (n : ℕ) → least n (λ k. min (f k) (g k)) ≡ min (least n f) (least n g)
unfolding least
least_two f g zero = refl
least_two f g (suc n) = let e = least_two f g n in omega arith

pub least_always : (n : ℕ) → least n (λ k. no_key) ≡ no_key
unfolding least
least_always zero = refl
least_always (suc n) = let e = least_always n in omega arith

-- one key alone
pub least_one : (f : ℕ → ℕ) (n j : ℕ) → j < n → ((k : ℕ) → k < n → (k ≡ j → ⊥) → f k ≡ no_key) → least n f ≡ min (f j) no_key
least_one f n j h others = by_case (least_is n f)
  where
    below : least n f ≤ f j
    below = least_below n f j h

    most : least n f ≤ no_key
    most = least_none n f

    by_case : (least n f ≡ no_key) ⊎ ((i : ℕ) × (i < n) × (least n f ≡ f i)) → least n f ≡ min (f j) no_key
    by_case (inl q) = let b = below in omega arith
    by_case (inr c) = here_or_not (ℕ_discrete c.0 j)
      where
        here_or_not : Dec (c.0 ≡ j) → least n f ≡ min (f j) no_key
        here_or_not (yes e) = let q = c.2 ∙ ap f e in let m = most in omega arith
        here_or_not (no d) = let q = c.2 ∙ others c.0 c.1 d in let b = below in omega arith

-- ---- the best key among some deals

module _ (e : Side) (r : ℕ → Result) where
  key_at : (ℕ → Bool) → ℕ → ℕ
  key_at p i = cond (p (suc i) && won (r (suc i))) (key_of e (r (suc i)).moves (suc i)) no_key

  pub best_or : (p q : ℕ → Bool) → best_key e r (λ n. p n || q n) ≡ min (best_key e r p) (best_key e r q)
  unfolding best_key key_at
  best_or p q =
      least_same (key_at (λ n. p n || q n)) (λ i. min (key_at p i) (key_at q i)) 32000
      (λ i l. either (p (suc i)) (q (suc i)) (won (r (suc i))) (key_of e (r (suc i)).moves (suc i)))
      ∙ least_two (key_at p) (key_at q) 32000
    where
      either : (a b w : Bool) (k : ℕ) → min (cond ((a || b) && w) k no_key) no_key ≡ min (min (cond (a && w) k no_key) (cond (b && w) k no_key)) no_key
      either true true true k = omega arith
      either true true false k = omega arith
      either true false true k = omega arith
      either true false false k = omega arith
      either false b w k = omega arith

  module _ (p : ℕ → Bool) where
    pub best_most : best_key e r p ≤ no_key
    unfolding best_key key_at
    best_most = least_none 32000 (key_at p)

    -- no win is better
    pub best_below : (i : ℕ) → i < 32000 → p (suc i) ≡ true → won (r (suc i)) ≡ true → best_key e r p ≤ key_of e (r (suc i)).moves (suc i)
    unfolding best_key key_at
    best_below i h a b =
        let t : (p (suc i) && won (r (suc i))) ≡ true = both a b in
        subst (λ (t : Bool). least 32000 (key_at p) ≤ cond t (key_of e (r (suc i)).moves (suc i)) no_key) t (least_below 32000 (key_at p) i h)

    -- it is a win's, if there is a win
    pub best_is :
        (best_key e r p ≡ no_key)
        ⊎ ((i : ℕ) × (i < 32000) × (p (suc i) ≡ true) × (won (r (suc i)) ≡ true) × (best_key e r p ≡ key_of e (r (suc i)).moves (suc i)))
    unfolding best_key key_at
    best_is = by_case (least_is 32000 (key_at p))
      where
        won-or-not :
            (i : ℕ) → i < 32000 → least 32000 (key_at p) ≡ key_at p i → (a b : Bool) → p (suc i) ≡ a → won (r (suc i)) ≡ b
            → (least 32000 (key_at p) ≡ no_key)
            ⊎ ((i : ℕ) × (i < 32000) × (p (suc i) ≡ true) × (won (r (suc i)) ≡ true) × (least 32000 (key_at p) ≡ key_of e (r (suc i)).moves (suc i)))
        won-or-not i h q true true a b = inr (i, h, a, b, q ∙ rw (a, b) refl)
        won-or-not i h q true false a b = inl (q ∙ rw (a, b) refl)
        won-or-not i h q false b a c = inl (q ∙ rw a refl)

        by_case :
            (least 32000 (key_at p) ≡ no_key) ⊎ ((i : ℕ) × (i < 32000) × (least 32000 (key_at p) ≡ key_at p i))
            → (least 32000 (key_at p) ≡ no_key)
            ⊎ ((i : ℕ) × (i < 32000) × (p (suc i) ≡ true) × (won (r (suc i)) ≡ true) × (least 32000 (key_at p) ≡ key_of e (r (suc i)).moves (suc i)))
        by_case (inl q) = inl q
        by_case (inr b) = won-or-not b.0 b.1 b.2 (p (suc b.0)) (won (r (suc b.0))) refl refl

-- ---- a key told as a list and a deal

-- a key names a deal, or there is none
pub record IsKey (k : ℕ) : Type 0 where
  pub most : k ≤ no_key
  pub named : k < no_key → 0 < k % 32768

module _ (e : Side) where
  pub key_list_lem : (k : ℕ) → k < no_key → key_list e k ≡ behind e (k / 32768)
  unfolding key_list
  key_list_lem k h = rw (lt-ltb k no_key h)

  pub key_deal_lem : (k : ℕ) → k < no_key → key_deal k ≡ k % 32768
  unfolding key_deal
  key_deal_lem k h = rw (lt-ltb k no_key h)

  pub no_list_lem : key_list e no_key ≡ 0
  unfolding key_list
  no_list_lem = refl

  pub no_deal : key_deal no_key ≡ 0
  unfolding key_deal
  no_deal = refl

  -- a mark's key
  module _ (m n : ℕ) (short : m ≤ 200) (low : 0 < n) (high : n ≤ 32000) where
    pub mark_below : key_of e m n < no_key
    mark_below = let b = behind_most e m short in omega arith

    pub mark_behind : key_of e m n / 32768 ≡ behind e m
    mark_behind = omega arith

    pub mark_list_lem : key_list e (key_of e m n) ≡ m
    mark_list_lem = key_list_lem (key_of e m n) mark_below ∙ ap (behind e) mark_behind ∙ behind_twice e m short

    pub mark_deal_lem : key_deal (key_of e m n) ≡ n
    mark_deal_lem = key_deal_lem (key_of e m n) mark_below ∙ omega arith

  -- what is told of a key gives it back
  pub key_back : (k : ℕ) → IsKey k → cond (eqb (key_deal k) 0) no_key (key_of e (key_list e k) (key_deal k)) ≡ k
  key_back k c = by_case (dec_lt k no_key)
    where
      by_case : Dec (k < no_key) → cond (eqb (key_deal k) 0) no_key (key_of e (key_list e k) (key_deal k)) ≡ k
      by_case (yes h) =
          let n = c.named h in
          rw (key_deal_lem k h, key_list_lem k h, ne_eqb (k % 32768) 0 (λ q. let w : ⊥ = omega arith in w))
          (let t = behind_twice e (k / 32768) (omega arith) in omega arith)
      by_case (no h) =
          let m = c.most in
          let q : k ≡ no_key = omega arith in
          subst (λ (x : ℕ). cond (eqb (key_deal x) 0) no_key (key_of e (key_list e x) (key_deal x)) ≡ x) (sym q) (rw no_deal refl)

  pub best_key_lem : (r : ℕ → Result) (p : ℕ → Bool) → IsKey (best_key e r p)
  best_key_lem r p = by_case (best_is e r p)
    where
      by_case :
          (best_key e r p ≡ no_key)
          ⊎ ((i : ℕ) × (i < 32000) × (p (suc i) ≡ true) × (won (r (suc i)) ≡ true) × (best_key e r p ≡ key_of e (r (suc i)).moves (suc i)))
          → IsKey (best_key e r p)
      by_case (inl q) = record { most = omega arith; named = λ h. absurd (let w : ⊥ = omega arith in w) }
      by_case (inr b) = let l = b.1 in let q = b.4 in record { most = best_most e r p; named = λ h. omega arith }

  pub key_over : (s : Settings) (r : ℕ → Result) (p : ℕ → Bool) → key_in e (sheet_over s r p) ≡ best_key e r p
  unfolding key_in sheet_over figure_over
  key_over s r p =
      ap₂ (λ (m n : ℕ). cond (eqb n 0) no_key (key_of e m n)) (words_tell (figure_over s r p) (mark_list e) tt) (words_tell (figure_over s r p) (mark_deal e) tt)
      ∙ key_back (best_key e r p) (best_key_lem r p)
