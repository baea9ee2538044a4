-- Looking at cards one after the other: one card, none, more, and what the end says of the whole list.
use mathlib.Core.Path.{◌≡◌, sym, ap, ◌∙◌, subst}
use mathlib.Core.Bool.{Bool, true, false, cond}
use mathlib.Core.List.{List, [], ◌∷◌, ◌++◌, append_assoc, append-nil}
use Prim.Native.Nat.{ℕ, suc, ◌+◌, ◌%◌, ◌^◌, ◌<◌, ◌≤◌}
use native.Mathlib.Nat.{zero-div}
use native.Mathlib.Omega.{arith}
use native.Mathlib.Decide.{ℕ_discrete}
use lib.Count.{ones}
use lib.Dec.{leb}
use borrow.Author.Tests.{leb-true, le-leb, lt-leb}
use Rattle.base.specs.Words.{occurs, listed, concat}
use Rattle.card.specs.Card.{is_card}
use Rattle.card.specs.Pack.{card_at, place_of}
use Rattle.base.proofs.Words.{concat_none, concat_more, concat_split, occurs_none, occurs_here, occurs_other, occurs-append, every_at, every_by, every_fails, not_so}
use Rattle.base.proofs.Sums.{sum_full, sum-all}
use Rattle.card.proofs.Codes.{at_place, place_at, place_below_lem}
use Rattle.board.specs.Verdict.{none_twice, none_missing}
use Rattle.board.specs.Inner.{bit_at, Holds, Knows, Marks}
use Rattle.std.specs.Prelude.{Option, Some, None}
use Rattle.board.proofs.Bits.{bit_small, bit_here, bit_other, bit_fits, ones_are_bits}

-- ---- what a list says of one card

one_here : (x y : ℕ) → x ≡ y → occurs x (y ∷ []) ≡ 1
one_here x y e = occurs_here x y [] e ∙ ap suc (occurs_none x)

one_other : (x y : ℕ) → (x ≡ y → ⊥) → occurs x (y ∷ []) ≡ 0
one_other x y d = occurs_other x y [] d ∙ occurs_none x

pub twice_fails : (l : List ℕ) (k : ℕ) → k < 52 → 2 ≤ occurs (card_at k) l → none_twice l ≡ false
unfolding none_twice
twice_fails l k h t = every_fails (λ k. leb (occurs (card_at k) l) 1) 52 k h (lt-leb (occurs (card_at k) l) 1 t)

pub none_twice_lem : (l : List ℕ) → ((k : ℕ) → k < 52 → occurs (card_at k) l ≤ 1) → none_twice l ≡ true
unfolding none_twice
none_twice_lem l h = every_by (λ k. leb (occurs (card_at k) l) 1) 52 (λ k b. le-leb (occurs (card_at k) l) 1 (h k b))

pub none_twice_at : (l : List ℕ) → none_twice l ≡ true → (k : ℕ) → k < 52 → occurs (card_at k) l ≤ 1
unfolding none_twice
none_twice_at l e k b = leb-true (occurs (card_at k) l) 1 (every_at (λ k. leb (occurs (card_at k) l) 1) 52 e k b)

pub none_missing_lem : (l : List ℕ) → ((k : ℕ) → k < 52 → 1 ≤ occurs (card_at k) l) → none_missing l ≡ true
unfolding none_missing
none_missing_lem l h = every_by (λ k. leb 1 (occurs (card_at k) l)) 52 (λ k b. le-leb 1 (occurs (card_at k) l) (h k b))

pub none_missing_at : (l : List ℕ) → none_missing l ≡ true → (k : ℕ) → k < 52 → 1 ≤ occurs (card_at k) l
unfolding none_missing
none_missing_at l e k b = leb-true 1 (occurs (card_at k) l) (every_at (λ k. leb 1 (occurs (card_at k) l)) 52 e k b)

pub twice_stays : (l t : List ℕ) → none_twice l ≡ false → none_twice (l ++ t) ≡ false
twice_stays l t e =
    not_so (none_twice (l ++ t))
    (λ f. clash (none_twice_lem l (λ k b. let a = none_twice_at (l ++ t) f k b in let o = occurs-append (card_at k) l t in omega arith)))
  where
    clash : none_twice l ≡ true → ⊥
    clash g = let z : ◌≡◌ {A = ℕ} 0 1 = ap (λ (b : Bool). cond b 0 1) (sym g ∙ e) in omega arith

-- ---- one card

module _ (seen code : ℕ) (card : is_card code ≡ true) where
  pub mark_again : bit_at seen (place_of code) ≡ 1 → Marks seen (code ∷ []) None
  mark_again e =
      record {
        below = tt;
        knows = λ l h. twice_fails (l ++ (code ∷ [])) (place_of code) (place_below_lem code card)
            (let a = h.bits (place_of code) (place_below_lem code card) in
            let o = occurs-append (card_at (place_of code)) l (code ∷ []) in
            let n = one_here (card_at (place_of code)) code (at_place code card) in
            omega arith);
      }

  new_bits : (l : List ℕ) → Holds seen l → bit_at seen (place_of code) ≡ 0 → (k : ℕ) → k < 52 → Dec (k ≡ place_of code)
      → bit_at (seen + 2 ^ place_of code) k ≡ occurs (card_at k) (l ++ (code ∷ []))
  new_bits l h e k b (yes q) =
      subst (λ (j : ℕ). bit_at (seen + 2 ^ place_of code) j ≡ occurs (card_at j) (l ++ (code ∷ []))) (sym q)
      (let a = h.bits (place_of code) (place_below_lem code card) in
      let o = occurs-append (card_at (place_of code)) l (code ∷ []) in
      let n = one_here (card_at (place_of code)) code (at_place code card) in
      let f = bit_here (place_of code) seen e in
      omega arith)
  new_bits l h e k b (no q) =
      let a = h.bits k b in
      let o = occurs-append (card_at k) l (code ∷ []) in
      let n = one_other (card_at k) code (λ r. q (sym (place_at k) ∙ ap place_of r)) in
      let f = bit_other (place_of code) k seen e q in
      omega arith

  pub mark_new : seen < 2 ^ 52 → (bit_at seen (place_of code) ≡ 1 → ⊥) → Marks seen (code ∷ []) (Some (seen + 2 ^ place_of code))
  mark_new h d =
      let e : bit_at seen (place_of code) ≡ 0 = let s = bit_small seen (place_of code) in omega arith in
      let f : seen + 2 ^ place_of code < 2 ^ 52 = bit_fits 52 (place_of code) seen (place_below_lem code card) h e in
      record {
        below = f;
        knows = λ l k. record { below = f; bits = λ j b. new_bits l k e j b (ℕ_discrete j (place_of code)) };
      }

-- ---- none, and more

pub marks_none : (seen : ℕ) → seen < 2 ^ 52 → Marks seen [] (Some seen)
marks_none seen h = record { below = h; knows = λ l k. subst (λ (m : List ℕ). Holds seen m) (sym (append-nil l)) k }

pub marks_more : {seen more : ℕ} {s t : List ℕ} {r : Option ℕ} → Marks seen s (Some more) → Marks more t r → Marks seen (s ++ t) r
marks_more {s = s} {t = t} {r = r} a b =
    record { below = b.below; knows = λ l k. subst (λ (m : List ℕ). Knows r m) (append_assoc l s t) (b.knows (l ++ s) (a.knows l k)) }

pub marks_twice : {seen : ℕ} {s : List ℕ} → Marks seen s None → (t : List ℕ) → Marks seen (s ++ t) None
marks_twice {s = s} a t =
    record { below = tt; knows = λ l k. subst (λ (m : List ℕ). none_twice m ≡ false) (append_assoc l s t) (twice_stays (l ++ s) t (a.knows l k)) }

pub marks_as : {seen : ℕ} {s : List ℕ} {r q : Option ℕ} → Marks seen s r → r ≡ q → Marks seen s q
marks_as {seen} {s} m e = subst (λ (q : Option ℕ). Marks seen s q) e m

-- ---- a loop over n lists: before the first, after one more, at the first repeat, at the end

-- the cards of the first i lists are looked at
pub record Passed (seen : ℕ) (f : ℕ → List ℕ) (n cards i : ℕ) : Type 0 where
  pub within : i ≤ n
  pub marks : Marks seen (concat (listed i f)) (Some cards)

module _ {seen : ℕ} (f : ℕ → List ℕ) (n : ℕ) where
  pub pass_none : seen < 2 ^ 52 → Passed seen f n seen 0
  pass_none h =
      record { within = omega arith; marks = subst (λ (l : List ℕ). Marks seen l (Some seen)) (sym (concat_none f)) (marks_none seen h) }

  pub pass_more : {cards more i : ℕ} {r : Option ℕ} → Passed seen f n cards i → i < n → Marks cards (f i) r → r ≡ Some more → Passed seen f n more (i + 1)
  pass_more {cards} {more} {i} a h b e =
      record {
        within = omega arith;
        marks = subst (λ (l : List ℕ). Marks seen l (Some more)) (sym (concat_more f i))
            (marks_more a.marks (marks_as b e));
      }

  pub pass_stop : {cards i : ℕ} {r : Option ℕ} → Passed seen f n cards i → i < n → Marks cards (f i) r → r ≡ None → Marks seen (concat (listed n f)) None
  pass_stop {cards} {i} a h b e =
      let s = concat_split f n i h in
      subst (λ (l : List ℕ). Marks seen l None) (sym s.1)
      (marks_twice (marks_more a.marks (marks_as b e)) s.0)

  pub pass_end : {cards i : ℕ} → Passed seen f n cards i → n ≤ i → Marks seen (concat (listed n f)) (Some cards)
  pass_end {cards} {i} a h =
      subst (λ (m : ℕ). Marks seen (concat (listed m f)) (Some cards)) (let w = a.within in let e : i ≡ n = omega arith in e) a.marks

-- ---- what the end says, begun with no card seen

pub holds_none : Holds 0 []
unfolding bit_at
holds_none = record { below = omega arith; bits = λ k b. ap (λ (m : ℕ). m % 2) (zero-div (2 ^ k)) ∙ sym (occurs_none (card_at k)) }

pub holds_once : {seen : ℕ} {l : List ℕ} → Holds seen l → none_twice l ≡ true
holds_once {seen} {l} h = none_twice_lem l (λ k b. let a = h.bits k b in let s = bit_small seen k in omega arith)

-- with no repeat found, 52 ones say that no card is missing, and any other number that one is
pub ones_all : {seen : ℕ} {l : List ℕ} → Holds seen l → ones seen ≡ 52 → none_missing l ≡ true
ones_all {seen} {l} h e =
    none_missing_lem l
    (λ k b. let f = sum_full (λ j. bit_at seen j) 52 (λ j m. bit_small seen j) (sym (ones_are_bits 52 seen h.below) ∙ e) k b in
    let a = h.bits k b in omega arith)

pub ones_some : {seen : ℕ} {l : List ℕ} → Holds seen l → (ones seen ≡ 52 → ⊥) → none_missing l ≡ false
ones_some {seen} {l} h d =
    not_so (none_missing l)
    (λ e. d (ones_are_bits 52 seen h.below ∙ sum-all (λ j. bit_at seen j) 52
    (λ k b. let a = h.bits k b in let m = none_missing_at l e k b in let s = bit_small seen k in omega arith)))
