-- Walking over an image's columns: what is left to be read from here is what the whole reading gives.
use mathlib.Core.Path.{◌≡◌, refl, sym, ap, ◌∙◌, subst}
use mathlib.Core.List.{List, [], ◌∷◌, ◌++◌, append_assoc, append-nil}
use Prim.Native.Nat.{ℕ, suc, ◌+◌, ◌-◌, ◌<◌, ◌≤◌}
use native.Mathlib.Numerals.{add-one}
use native.Mathlib.Omega.{arith}
use borrow.Author.Count.{below_more}
use borrow.Author.Tests.{le-leb, lt-leb}
use lib.ListN.{length, get_or, take, drop, set, replicate, length-set, length-drop, drop_of_length-le}
use lib.Seq.{get_or-set_same, get_or-set_other, drop-cons, drop-drop}
use Rattle.base.specs.Words.{listed}
use Rattle.base.specs.Answer.{Answer, given, refused}
use Rattle.base.proofs.Words.{listed_same, listed_more}
use Rattle.board.proofs.Tables.{part_same, part_at_lem}
use Rattle.intake.specs.Image.{joining, columns_in}
use Rattle.board.specs.Inner.{part_at}
use Rattle.std.specs.Prelude.{Option, Some, None}
use Rattle.intake.specs.Inside.{Lies, Outlined}
use Rattle.intake.specs.declared.image.Outline.{Outline}

-- columns read before, and those still to come
abbrev pub prefixing : List (List ℕ) → Answer (List (List ℕ)) → Answer (List (List ℕ))
prefixing p (given q) = given (p ++ q)
prefixing p (refused n) = refused n

prefix_joining : (p : List (List ℕ)) (x : List ℕ) (a : Answer (List (List ℕ))) → prefixing p (joining x a) ≡ prefixing (p ++ (x ∷ [])) a
unfolding joining
prefix_joining p x (given q) = ap (λ (l : List (List ℕ)). given l) (sym (append_assoc p (x ∷ []) q))
prefix_joining p x (refused n) = refl

-- the first i columns are found, the next begins at `at`
pub record Walk (image starts counts : List ℕ) (at i : ℕ) : Type 0 where
  pub upto : i ≤ 8
  pub inside : at ≤ length image
  pub starts8 : length starts ≡ 8
  pub counts8 : length counts ≡ 8
  pub within : (k : ℕ) → k < i → get_or starts k 0 + get_or counts k 0 ≤ length image
  pub left : columns_in 8 (drop 11 image) ≡ prefixing (listed i (part_at starts counts image)) (columns_in (8 - i) (drop at image))

prefix_none : (f : ℕ → List ℕ) (a : Answer (List (List ℕ))) → a ≡ prefixing (listed 0 f) a
unfolding listed
prefix_none f (given q) = refl
prefix_none f (refused n) = refl

pub walk_start : (image : List ℕ) → 11 ≤ length image → Walk image (replicate 8 0) (replicate 8 0) 11 0
walk_start image h =
    record {
      upto = omega arith;
      inside = h;
      starts8 = refl;
      counts8 = refl;
      within = λ k b. omega arith;
      left = prefix_none (part_at (replicate 8 0) (replicate 8 0) image) (columns_in 8 (drop 11 image));
    }

-- one column more, read from what is left
module _ (n : ℕ) (image : List ℕ) (at : ℕ) where
  read_none : length image ≤ at → columns_in (suc n) (drop at image) ≡ refused 12
  unfolding columns_in
  read_none h = ap (columns_in (suc n)) (drop_of_length-le image h)

  split : at < length image → drop at image ≡ get_or image at 0 ∷ drop (at + 1) image
  split h = drop-cons image at 0 h ∙ ap (λ (k : ℕ). get_or image at 0 ∷ drop k image) (sym (add-one at))

  read_past : at < length image → length image < at + 1 + get_or image at 0 → columns_in (suc n) (drop at image) ≡ refused 12
  unfolding columns_in
  read_past h b =
      ap (columns_in (suc n)) (split h)
      ∙ rw (lt-leb (get_or image at 0) (length (drop (at + 1) image)) (let l = length-drop (at + 1) image in omega arith))

  read_one : at + 1 + get_or image at 0 ≤ length image
      → columns_in (suc n) (drop at image) ≡ joining (take (get_or image at 0) (drop (at + 1) image)) (columns_in n (drop (at + 1 + get_or image at 0) image))
  unfolding columns_in
  read_one b =
      ap (columns_in (suc n)) (split (omega arith))
      ∙ rw (le-leb (get_or image at 0) (length (drop (at + 1) image)) (let l = length-drop (at + 1) image in omega arith))
      (ap (λ (l : List ℕ). joining (take (get_or image at 0) (drop (at + 1) image)) (columns_in n l)) (drop-drop (get_or image at 0) (at + 1) image))

module _ {image starts counts : List ℕ} {at i : ℕ} (a : Walk image starts counts at i) where
  -- what the whole reading gives, from what the rest does
  given_by : (n : ℕ) → i + n ≡ 8 → {r : Answer (List (List ℕ))} → columns_in n (drop at image) ≡ r
      → columns_in 8 (drop 11 image) ≡ prefixing (listed i (part_at starts counts image)) r
  given_by n e q =
      a.left
      ∙ ap (λ (m : ℕ). prefixing (listed i (part_at starts counts image)) (columns_in m (drop at image))) (let w : 8 - i ≡ n = omega arith in w)
      ∙ ap (prefixing (listed i (part_at starts counts image))) q

  pub walk_short : i < 8 → length image ≤ at → columns_in 8 (drop 11 image) ≡ refused 12
  walk_short h b = (given_by (suc (7 - i)) (omega arith) (read_none (7 - i) image at b))

  pub walk_past : i < 8 → at < length image → (w : ℕ) → w ≡ get_or image at 0 → length image < at + 1 + w → columns_in 8 (drop 11 image) ≡ refused 12
  walk_past h l w e b = (given_by (suc (7 - i)) (omega arith) (read_past (7 - i) image at l (omega arith)))

  pub walk_over : 8 ≤ i → at < length image → columns_in 8 (drop 11 image) ≡ refused 12
  unfolding columns_in
  walk_over h l = (given_by 0 (let u = a.upto in omega arith) (ap (columns_in 0) (split 0 image at l)))

  pub walk_end : 8 ≤ i → length image ≤ at → Lies image starts counts
  unfolding columns_in
  walk_end h l =
      record {
        parts = record { starts8 = a.starts8; counts8 = a.counts8; within = λ k b. a.within k (omega arith) };
        columns = given_by 0 (let u = a.upto in omega arith) (ap (columns_in 0) (drop_of_length-le image l))
            ∙ ap (λ (p : List (List ℕ)). given p) (append-nil (listed i (part_at starts counts image)))
            ∙ ap (λ (n : ℕ). given (listed n (part_at starts counts image))) (let u = a.upto in let w : i ≡ 8 = omega arith in w);
      }

  module _ (h : i < 8) (w : ℕ) (e : w ≡ get_or image at 0) (b : at + 1 + w ≤ length image) where
    before : (k : ℕ) → k < i → part_at starts counts image k ≡ part_at (set starts i (at + 1)) (set counts i (get_or image at 0)) image k
    before k l =
        part_same (set starts i (at + 1)) (set counts i (get_or image at 0)) image k starts counts
        (sym (get_or-set_other starts i k (at + 1) 0 (λ q. let z : ⊥ = omega arith in z)))
        (sym (get_or-set_other counts i k (get_or image at 0) 0 (λ q. let z : ⊥ = omega arith in z)))

    here : part_at (set starts i (at + 1)) (set counts i (get_or image at 0)) image i ≡ take (get_or image at 0) (drop (at + 1) image)
    here =
        part_at_lem (set starts i (at + 1)) (set counts i (get_or image at 0)) image i (at + 1) (get_or image at 0)
        (get_or-set_same starts i (at + 1) 0 (let l = a.starts8 in omega arith)) (get_or-set_same counts i (get_or image at 0) 0 (let l = a.counts8 in omega arith))

    columns : listed i (part_at starts counts image) ++ (take (get_or image at 0) (drop (at + 1) image) ∷ []) ≡ listed (i + 1) (part_at (set starts i (at + 1)) (set counts i (get_or image at 0)) image)
    columns =
        sym
        (listed_more (part_at (set starts i (at + 1)) (set counts i (get_or image at 0)) image) i
        ∙ ap (λ (x : List ℕ). listed i (part_at (set starts i (at + 1)) (set counts i (get_or image at 0)) image) ++ (x ∷ [])) here
        ∙ ap (λ (p : List (List ℕ)). p ++ (take (get_or image at 0) (drop (at + 1) image) ∷ []))
        (sym (listed_same (part_at starts counts image) (part_at (set starts i (at + 1)) (set counts i (get_or image at 0)) image) i before)))

    pub walk_next : Walk image (set starts i (at + 1)) (set counts i (get_or image at 0)) (at + 1 + w) (i + 1)
    walk_next =
        record {
          upto = omega arith;
          inside = b;
          starts8 = length-set starts i (at + 1) ∙ a.starts8;
          counts8 = length-set counts i (get_or image at 0) ∙ a.counts8;
          within = below_more (λ (k : ℕ). get_or (set starts i (at + 1)) k 0 + get_or (set counts i (get_or image at 0)) k 0 ≤ length image) i
              (λ k l. let w = a.within k l in
              let p = get_or-set_other starts i k (at + 1) 0 (λ q. let z : ⊥ = omega arith in z) in
              let c = get_or-set_other counts i k (get_or image at 0) 0 (λ q. let z : ⊥ = omega arith in z) in
              omega arith)
              (let p = get_or-set_same starts i (at + 1) 0 (let l = a.starts8 in omega arith) in
              let c = get_or-set_same counts i (get_or image at 0) 0 (let l = a.counts8 in omega arith) in
              omega arith);
          left = given_by (suc (8 - (i + 1))) (omega arith) (read_one (8 - (i + 1)) image at (omega arith))
              ∙ prefix_joining (listed i (part_at starts counts image)) (take (get_or image at 0) (drop (at + 1) image)) _
              ∙ ap (λ (p : List (List ℕ)). prefixing p (columns_in (8 - (i + 1)) (drop (at + 1 + get_or image at 0) image))) columns
              ∙ ap (λ (n : ℕ). prefixing (listed (i + 1) (part_at (set starts i (at + 1)) (set counts i (get_or image at 0)) image)) (columns_in (8 - (i + 1)) (drop (at + 1 + n) image))) (sym e);
        }

-- ---- what is known where the columns were looked for

module _ (image : List ℕ) {r : Option Outline} (k : Outlined image r) where
  pub lies_yes : {o : Outline} → r ≡ Some o → Lies image o.starts o.counts
  lies_yes e = subst (Outlined image) e k

  pub lies_no : r ≡ None → columns_in 8 (drop 11 image) ≡ refused 12
  lies_no e = subst (Outlined image) e k
