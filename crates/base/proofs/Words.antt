-- Laws of the words: what a checking loop shows turn by turn, and how the words go over `++`.
use mathlib.Core.Path.{◌≡◌, refl, sym, ap, ◌∙◌}
use mathlib.Core.Bool.{Bool, true, false, cond, ◌&&◌, and_assoc}
use mathlib.Core.List.{List, [], ◌∷◌, ◌++◌, append_assoc, append-nil}
use Prim.Native.Nat.{ℕ, zero, suc, ◌+◌, ◌<◌, ◌≤◌}
use native.Mathlib.Nat.{le_of_suc-le-suc, not-suc-le-zero}
use native.Mathlib.Numerals.{add-one}
use native.Mathlib.Omega.{arith}
use native.Mathlib.Decide.{ℕ_discrete}
use borrow.Author.Count.{below_more}
use lib.ListN.{length, get_or, take, length-append, get_or-append}
use lib.Seq.{get_or_at, take-suc, take-length}
use lib.Dec.{eqb}
use borrow.Author.Tests.{eq-eqb, ne_eqb}
use Rattle.std.proofs.lemmas.List.{ext_get_or}
use Rattle.base.specs.Words.{every, all, occurs, listed, concat, sum}

-- ---- tests

pub true_or_not : {A : Type 0} (a : Bool) → a ≡ true → a ≡ false → A
true_or_not {A} a p q = let z : ◌≡◌ {A = ℕ} 0 1 = ap (λ (t : Bool). cond t 0 1) (sym p ∙ q) in absurd (let w : ⊥ = omega arith in w)

pub not_so : (a : Bool) → (a ≡ true → ⊥) → a ≡ false
not_so true h = absurd (h refl)
not_so false h = refl

-- two tests are the same test if each holds where the other does
pub same_test : (a b : Bool) → (a ≡ true → b ≡ true) → (b ≡ true → a ≡ true) → a ≡ b
same_test true b f g = sym (f refl)
same_test false true f g = g refl
same_test false false f g = refl

pub both : {a b : Bool} → a ≡ true → b ≡ true → (a && b) ≡ true
both {a} {b} p q = rw (p, q)

pub first : (a b : Bool) → (a && b) ≡ true → a ≡ true
first true b e = refl
first false b e = e

pub second : (a b : Bool) → (a && b) ≡ true → b ≡ true
second true b e = e
second false b e = true_or_not false e refl

pub first_fails : (a b : Bool) → a ≡ false → (a && b) ≡ false
first_fails a b e = rw e

pub second_fails : (a b : Bool) → b ≡ false → (a && b) ≡ false
second_fails true b e = e
second_fails false b e = refl

-- ---- every

module _ (p : ℕ → Bool) where
  pub every_none : every 0 p ≡ true
  unfolding every
  every_none = refl

  pub every_more : (i : ℕ) → every i p ≡ true → p i ≡ true → every (i + 1) p ≡ true
  unfolding every
  every_more i e f = rw add-one (both e f)

  pub every_at : (n : ℕ) → every n p ≡ true → (k : ℕ) → k < n → p k ≡ true
  unfolding every
  every_at zero e k h = absurd (not-suc-le-zero h)
  every_at (suc n) e k h =
      below_more (λ (j : ℕ). p j ≡ true) n (every_at n (first (every n p) (p n) e)) (second (every n p) (p n) e) k (omega arith)

  pub every_by : (n : ℕ) → ((k : ℕ) → k < n → p k ≡ true) → every n p ≡ true
  unfolding every
  every_by zero h = refl
  every_by (suc n) h = both (every_by n (λ k l. h k (omega arith))) (h n (omega arith))

  -- what a checking loop knows at its end
  pub every_end : (n i : ℕ) → every i p ≡ true → n ≤ i → every n p ≡ true
  every_end n i e h = every_by n (λ k l. every_at i e k (omega arith))

  pub every_fails : (n k : ℕ) → k < n → p k ≡ false → every n p ≡ false
  every_fails n k h f = not_so (every n p) (λ e. true_or_not (p k) (every_at n e k h) f)

-- ---- all

module _ (p : ℕ → Bool) where
  pub all_append : (s t : List ℕ) → all p (s ++ t) ≡ (all p s && all p t)
  unfolding all
  all_append [] t = refl
  all_append (x ∷ s) t = ap (λ (b : Bool). p x && b) (all_append s t) ∙ sym (and_assoc (p x) (all p s) (all p t))

  pub all_at : (s : List ℕ) → all p s ≡ true → (k : ℕ) → k < length s → p (get_or s k 0) ≡ true
  unfolding all
  all_at [] e k h = absurd (not-suc-le-zero h)
  all_at (x ∷ s) e zero h = first (p x) (all p s) e
  all_at (x ∷ s) e (suc k) h = all_at s (second (p x) (all p s) e) k (le_of_suc-le-suc h)

  pub all_by : (s : List ℕ) → ((k : ℕ) → k < length s → p (get_or s k 0) ≡ true) → all p s ≡ true
  unfolding all
  all_by [] h = refl
  all_by (x ∷ s) h = both (h 0 (omega arith)) (all_by s (λ k l. h (suc k) (omega arith)))

  -- a loop over a list's places judges the whole list
  pub all-every : (s : List ℕ) → every (length s) (λ k. p (get_or s k 0)) ≡ all p s
  all-every s =
      same_test (every (length s) (λ k. p (get_or s k 0))) (all p s) (λ e. all_by s (every_at (λ k. p (get_or s k 0)) (length s) e))
      (λ e. every_by (λ k. p (get_or s k 0)) (length s) (all_at s e))

-- ---- listed and concat

module _ {A : Type 0} (f : ℕ → A) where
  pub listed_more : (i : ℕ) → listed (i + 1) f ≡ listed i f ++ (f i ∷ [])
  unfolding listed
  listed_more i = rw add-one refl

  pub length-listed : (n : ℕ) → length (listed n f) ≡ n
  unfolding listed
  length-listed zero = refl
  length-listed (suc n) = let e = length-listed n in simp length-append (omega arith)

  pub get_or-listed : (n k : ℕ) (d : A) → k < n → get_or (listed n f) k d ≡ f k
  unfolding listed
  get_or-listed zero k d h = absurd (not-suc-le-zero h)
  get_or-listed (suc n) k d h =
      below_more (λ (j : ℕ). get_or (listed n f ++ (f n ∷ [])) j d ≡ f j) n
      (λ j l. get_or-append (listed n f) (f n ∷ []) d j (let e = length-listed n in omega arith) ∙ get_or-listed n j d l)
      (get_or_at (listed n f) (f n) [] d n (length-listed n)) k (omega arith)

pub listed_same : {A : Type 0} (f g : ℕ → A) (n : ℕ) → ((k : ℕ) → k < n → f k ≡ g k) → listed n f ≡ listed n g
unfolding listed
listed_same f g zero h = refl
listed_same f g (suc n) h =
    let e = listed_same f g n (λ k l. h k (omega arith)) in
    let e' = h n (omega arith) in
    cc

-- a list by what stands at each place
pub listed_by : (f : ℕ → ℕ) (n : ℕ) (s : List ℕ) → length s ≡ n → ((k : ℕ) → k < n → get_or s k 0 ≡ f k) → s ≡ listed n f
listed_by f n s l h =
    ext_get_or 0 s (listed n f) (l ∙ sym (length-listed f n))
    (λ k b. let below : k < n = omega arith in h k below ∙ sym (get_or-listed f n k 0 below))

pub concat-append : (s t : List (List ℕ)) → concat (s ++ t) ≡ concat s ++ concat t
unfolding concat
concat-append [] t = refl
concat-append (l ∷ s) t = ap (λ (m : List ℕ). l ++ m) (concat-append s t) ∙ sym (append_assoc l (concat s) (concat t))

pub concat_one : (l : List ℕ) → concat (l ∷ []) ≡ l
unfolding concat
concat_one l = append-nil l

pub concat_none : (f : ℕ → List ℕ) → concat (listed 0 f) ≡ []
unfolding concat listed
concat_none f = refl

pub concat_more : (f : ℕ → List ℕ) (i : ℕ) → concat (listed (i + 1) f) ≡ concat (listed i f) ++ f i
concat_more f i = ap concat (listed_more f i) ∙ concat-append (listed i f) (f i ∷ []) ∙ ap (λ (m : List ℕ). concat (listed i f) ++ m) (concat_one (f i))

-- the lists before i, list i, and what comes after it
pub concat_split : (f : ℕ → List ℕ) (n i : ℕ) → i < n → (rest : List ℕ) × (concat (listed n f) ≡ (concat (listed i f) ++ f i) ++ rest)
concat_split f zero i h = absurd (not-suc-le-zero h)
concat_split f (suc n) i h = here_or_before (concat_split f n i) (ℕ_discrete i n)
  where
    last : concat (listed (suc n) f) ≡ concat (listed n f) ++ f n
    last = ap (λ (m : ℕ). concat (listed m f)) (sym (add-one n)) ∙ concat_more f n

    here_or_before :
        (i < n → (rest : List ℕ) × (concat (listed n f) ≡ (concat (listed i f) ++ f i) ++ rest)) →
        Dec (i ≡ n) → (rest : List ℕ) × (concat (listed (suc n) f) ≡ (concat (listed i f) ++ f i) ++ rest)
    here_or_before before (yes e) =
        ([], last ∙ ap (λ (m : ℕ). concat (listed m f) ++ f m) (sym e) ∙ sym (append-nil (concat (listed i f) ++ f i)))
    here_or_before before (no d) =
        let r = before (omega arith) in
        (r.0 ++ f n, last ∙ ap (λ (l : List ℕ). l ++ f n) r.1 ∙ append_assoc (concat (listed i f) ++ f i) r.0 (f n))

-- what goes over `++` is made of what it does to each element
pub piecewise : (h : List ℕ → List ℕ) → h [] ≡ [] → ((s t : List ℕ) → h (s ++ t) ≡ h s ++ h t)
    → (s : List ℕ) → concat (listed (length s) (λ k. h (get_or s k 0 ∷ []))) ≡ h s
piecewise h none join s = upto (length s) (omega arith) ∙ ap h (take-length s)
  where
    f : ℕ → List ℕ
    f k = h (get_or s k 0 ∷ [])

    upto : (n : ℕ) → n ≤ length s → concat (listed n f) ≡ h (take n s)
    upto zero b = concat_none f ∙ sym none
    upto (suc n) b =
        ap (λ (m : ℕ). concat (listed m f)) (sym (add-one n)) ∙ concat_more f n ∙ ap (λ (l : List ℕ). l ++ f n) (upto n (omega arith))
        ∙ sym (join (take n s) (get_or s n 0 ∷ [])) ∙ ap h (sym (take-suc s n 0 b))

-- a list is its elements, each a list of one
pub singles : (s : List ℕ) → concat (listed (length s) (λ k. get_or s k 0 ∷ [])) ≡ s
singles s = piecewise (λ l. l) refl (λ s t. refl) s

pub singles_listed : (g : ℕ → ℕ) (n : ℕ) → concat (listed n (λ k. g k ∷ [])) ≡ listed n g
unfolding listed concat
singles_listed g zero = refl
singles_listed g (suc n) =
    ap (λ (m : ℕ). concat (listed m (λ k. g k ∷ []))) (sym (add-one n)) ∙ concat_more (λ k. g k ∷ []) n
    ∙ ap (λ (l : List ℕ). l ++ (g n ∷ [])) (singles_listed g n)

-- a test of everything in n lists is a test of each of them
pub all-concat : (p : ℕ → Bool) (f : ℕ → List ℕ) (n : ℕ) → all p (concat (listed n f)) ≡ every n (λ i. all p (f i))
unfolding every listed concat all
all-concat p f zero = refl
all-concat p f (suc n) =
    ap (all p) (concat-append (listed n f) (f n ∷ []) ∙ ap (λ (m : List ℕ). concat (listed n f) ++ m) (concat_one (f n)))
    ∙ all_append p (concat (listed n f)) (f n) ∙ ap (λ (b : Bool). b && all p (f n)) (all-concat p f n)

-- ---- occurs

pub occurs_none : (x : ℕ) → occurs x [] ≡ 0
unfolding occurs
occurs_none x = refl

pub occurs_here : (x y : ℕ) (l : List ℕ) → x ≡ y → occurs x (y ∷ l) ≡ suc (occurs x l)
unfolding occurs
occurs_here x y l e = rw (eq-eqb x y e) (omega arith)

pub occurs_other : (x y : ℕ) (l : List ℕ) → (x ≡ y → ⊥) → occurs x (y ∷ l) ≡ occurs x l
unfolding occurs
occurs_other x y l d = rw (ne_eqb x y d) (omega arith)

pub occurs-append : (x : ℕ) (s t : List ℕ) → occurs x (s ++ t) ≡ occurs x s + occurs x t
unfolding occurs
occurs-append x [] t = omega arith
occurs-append x (y ∷ s) t = let e = occurs-append x s t in omega arith

-- counted place by place
pub occurs-listed : (x n : ℕ) (g : ℕ → ℕ) → occurs x (listed n g) ≡ sum n (λ k. cond (eqb x (g k)) 1 0)
unfolding listed sum occurs
occurs-listed x zero g = refl
occurs-listed x (suc n) g = occurs-append x (listed n g) (g n ∷ []) ∙ (let e = occurs-listed x n g in omega arith)

pub occurs-concat : (x : ℕ) (f : ℕ → List ℕ) (n : ℕ) → occurs x (concat (listed n f)) ≡ sum n (λ i. occurs x (f i))
unfolding sum listed concat occurs
occurs-concat x f zero = refl
occurs-concat x f (suc n) =
    ap (occurs x) (concat-append (listed n f) (f n ∷ []) ∙ ap (λ (m : List ℕ). concat (listed n f) ++ m) (concat_one (f n)))
    ∙ occurs-append x (concat (listed n f)) (f n) ∙ ap (λ (m : ℕ). m + occurs x (f n)) (occurs-concat x f n)
