-- Where the figures of a sheet stand: a sheet is told by its figures, and says them again.
use mathlib.Core.Path.{◌≡◌, refl, sym, ap, ◌∙◌, subst}
use mathlib.Core.List.{List, [], ◌∷◌, ◌++◌}
use Prim.Native.Nat.{ℕ, zero, suc, ◌+◌, ◌-◌, ◌<◌}
use native.Mathlib.Omega.{arith}
use native.Mathlib.Decide.{dec_lt}
use lib.ListN.{length, get_or, length-append, get_or-append}
use lib.Seq.{get_or-append-add, ext_get_or}
use Rattle.base.specs.Words.{listed}
use Rattle.base.proofs.Words.{length-listed, get_or-listed}
use Rattle.sheets.specs.declared.Side.TheVariants.{Shortest as shortest, Longest as longest}
use Rattle.sheets.specs.Figures.{Figure, the_budget, the_capacity, the_flag, answers, all_pops, mark_list, mark_deal, lists, covers, place_of, told, words_of}

-- the figure has a place
abbrev pub Stands : Figure → Type 0
Stands the_budget = Unit
Stands the_capacity = Unit
Stands the_flag = Unit
Stands (answers k) = k < 7
Stands all_pops = Unit
Stands (mark_list e) = Unit
Stands (mark_deal e) = Unit
Stands (lists m) = m < 201
Stands (covers w) = w < 500

pub stands_below : (g : Figure) → Stands g → place_of g < 716
stands_below the_budget h = omega arith
stands_below the_capacity h = omega arith
stands_below the_flag h = omega arith
stands_below (answers k) h = omega arith
stands_below all_pops h = omega arith
stands_below (mark_list shortest) h = omega arith
stands_below (mark_list longest) h = omega arith
stands_below (mark_deal shortest) h = omega arith
stands_below (mark_deal longest) h = omega arith
stands_below (lists m) h = omega arith
stands_below (covers w) h = omega arith

pub told_at : (a : List ℕ) (g : Figure) → told a g ≡ get_or a (place_of g) 0
unfolding told
told_at a g = refl

-- ---- what was written is told

past : (s t : List ℕ) (n k : ℕ) → length s ≡ n → get_or (s ++ t) (n + k) 0 ≡ get_or t k 0
past s t n k e = ap (λ (x : ℕ). get_or (s ++ t) (x + k) 0) (sym e) ∙ get_or-append-add s t k 0

module _ (f : Figure → ℕ) where
  settled : List ℕ
  settled = f the_budget ∷ f the_capacity ∷ f the_flag ∷ []

  answered : List ℕ
  answered = listed 7 (λ k. f (answers k))

  marked : List ℕ
  marked = f all_pops ∷ f (mark_list shortest) ∷ f (mark_deal shortest) ∷ f (mark_list longest) ∷ f (mark_deal longest) ∷ []

  counted : List ℕ
  counted = listed 201 (λ m. f (lists m))

  covering : List ℕ
  covering = listed 500 (λ w. f (covers w))

  past_settled : (k : ℕ) → get_or (words_of f) (3 + k) 0 ≡ get_or (answered ++ (marked ++ (counted ++ covering))) k 0
  unfolding words_of settled answered marked counted covering
  past_settled k = past settled (answered ++ (marked ++ (counted ++ covering))) 3 k refl

  past_answered : (k : ℕ) → get_or (words_of f) (10 + k) 0 ≡ get_or (marked ++ (counted ++ covering)) k 0
  unfolding answered
  past_answered k =
      ap (λ (x : ℕ). get_or (words_of f) x 0) (let q : 10 + k ≡ 3 + (7 + k) = omega arith in q) ∙ past_settled (7 + k)
      ∙ past answered (marked ++ (counted ++ covering)) 7 k (length-listed (λ k. f (answers k)) 7)

  past_marked : (k : ℕ) → get_or (words_of f) (15 + k) 0 ≡ get_or (counted ++ covering) k 0
  unfolding marked
  past_marked k =
      ap (λ (x : ℕ). get_or (words_of f) x 0) (let q : 15 + k ≡ 10 + (5 + k) = omega arith in q) ∙ past_answered (5 + k)
      ∙ past marked (counted ++ covering) 5 k refl

  past_counted : (k : ℕ) → get_or (words_of f) (216 + k) 0 ≡ get_or covering k 0
  unfolding counted
  past_counted k =
      ap (λ (x : ℕ). get_or (words_of f) x 0) (let q : 216 + k ≡ 15 + (201 + k) = omega arith in q) ∙ past_marked (201 + k)
      ∙ past counted covering 201 k (length-listed (λ m. f (lists m)) 201)

  pub words_tell : (g : Figure) → Stands g → told (words_of f) g ≡ f g
  unfolding told words_of settled answered marked counted covering
  words_tell the_budget h = refl
  words_tell the_capacity h = refl
  words_tell the_flag h = refl
  words_tell (answers k) h =
      past_settled k
      ∙ get_or-append answered (marked ++ (counted ++ covering)) 0 k (let l = length-listed (λ k. f (answers k)) 7 in omega arith)
      ∙ get_or-listed (λ k. f (answers k)) 7 k 0 h
  words_tell all_pops h = past_answered 0
  words_tell (mark_list shortest) h = past_answered 1
  words_tell (mark_list longest) h = past_answered 3
  words_tell (mark_deal shortest) h = past_answered 2
  words_tell (mark_deal longest) h = past_answered 4
  words_tell (lists m) h =
      past_marked m ∙ get_or-append counted covering 0 m (let l = length-listed (λ m. f (lists m)) 201 in omega arith)
      ∙ get_or-listed (λ m. f (lists m)) 201 m 0 h
  words_tell (covers w) h = past_counted w ∙ get_or-listed (λ w. f (covers w)) 500 w 0 h

  pub words_long : length (words_of f) ≡ 716
  unfolding words_of
  words_long =
      let a = length-listed (λ k. f (answers k)) 7 in
      let b = length-listed (λ m. f (lists m)) 201 in
      let c = length-listed (λ w. f (covers w)) 500 in
      simp length-append (omega arith)

-- ---- a sheet is told by its figures

module _ where
  mark_at : (j : ℕ) → j < 5 → (g : Figure) × Stands g × (place_of g ≡ 10 + j)
  mark_at zero h = (all_pops, tt, refl)
  mark_at (suc zero) h = (mark_list shortest, tt, refl)
  mark_at (suc (suc zero)) h = (mark_deal shortest, tt, refl)
  mark_at (suc (suc (suc zero))) h = (mark_list longest, tt, refl)
  mark_at (suc (suc (suc (suc zero)))) h = (mark_deal longest, tt, refl)
  mark_at (suc (suc (suc (suc (suc j))))) h = absurd (let w : ⊥ = omega arith in w)

  figure_from : (k : ℕ) → k < 713 → (g : Figure) × Stands g × (place_of g ≡ 3 + k)
  figure_from k h = by_place (dec_lt k 7) (dec_lt k 12) (dec_lt k 213)
    where
      by_place : Dec (k < 7) → Dec (k < 12) → Dec (k < 213) → (g : Figure) × Stands g × (place_of g ≡ 3 + k)
      by_place (yes a) b c = (answers k, a, refl)
      by_place (no a) (yes b) c =
          let m = mark_at (k - 7) (omega arith) in
          (m.0, m.1, m.2 ∙ (let q : 10 + (k - 7) ≡ 3 + k = omega arith in q))
      by_place (no a) (no b) (yes c) = (lists (k - 12), omega arith, omega arith)
      by_place (no a) (no b) (no c) = (covers (k - 213), omega arith, omega arith)

  pub figure_at : (i : ℕ) → i < 716 → (g : Figure) × Stands g × (place_of g ≡ i)
  figure_at zero h = (the_budget, tt, refl)
  figure_at (suc zero) h = (the_capacity, tt, refl)
  figure_at (suc (suc zero)) h = (the_flag, tt, refl)
  figure_at (suc (suc (suc k))) h =
      let f = figure_from k (omega arith) in
      (f.0, f.1, f.2 ∙ (let q : 3 + k ≡ suc (suc (suc k)) = omega arith in q))

pub same_words : (a b : List ℕ) → length a ≡ 716 → length b ≡ 716 → ((g : Figure) → Stands g → told a g ≡ told b g) → a ≡ b
unfolding told
same_words a b la lb same = ext_get_or 0 a b (la ∙ sym lb) (λ i l. at i (omega arith))
  where
    at : (i : ℕ) → i < 716 → get_or a i 0 ≡ get_or b i 0
    at i l = let f = figure_at i l in subst (λ (x : ℕ). get_or a x 0 ≡ get_or b x 0) f.2 (same f.0 f.1)

-- two sheets made of figures
pub words_same : (f h : Figure → ℕ) → ((g : Figure) → Stands g → f g ≡ h g) → words_of f ≡ words_of h
words_same f h same =
    same_words (words_of f) (words_of h) (words_long f) (words_long h) (λ g s. words_tell f g s ∙ same g s ∙ sym (words_tell h g s))
