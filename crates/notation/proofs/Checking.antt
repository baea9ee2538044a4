-- A text looked at sign by sign: what is left to read is what the whole text gives.
use mathlib.Core.Path.{◌≡◌, refl, sym, ap, ◌∙◌, subst}
use mathlib.Core.List.{List, [], ◌∷◌}
use Prim.Native.Nat.{ℕ, suc, ◌+◌, ◌<◌, ◌≤◌}
use native.Mathlib.Numerals.{add-one}
use native.Mathlib.Omega.{arith}
use lib.ListN.{length, get_or, drop}
use lib.Seq.{drop-cons, drop-length}
use Rattle.notation.specs.Form.{step_from, Reading, jots, wrong, also, ending, onward, read_from, line_in, formed_by}
use Rattle.notation.specs.Inner.{formed_after, begun}
use Rattle.notation.specs.declared.Jot.{Jot}
use Rattle.notation.specs.declared.Due.{Due}
use Rattle.notation.specs.declared.Due.TheVariants.{Source, OfColumn, OfCell, Pair, Digit, Whole}
use Rattle.notation.specs.declared.Step.{Step}
use Rattle.notation.specs.declared.Step.TheVariants.{On, Ends, Wrong}
use Rattle.std.specs.Prelude.{Ok, Err}
use Rattle.notation.proofs.Forming.{some_text}

none_before : (r : Reading) → formed_by r ≡ formed_after 0 r
none_before (jots js) = ap (λ (n : ℕ). Ok n) (let q : length js ≡ 0 + length js = omega arith in q)
none_before (wrong p) = refl

one_before : (n : ℕ) (j : Jot) (r : Reading) → formed_after n (also j r) ≡ formed_after (n + 1) r
one_before n j (jots js) = ap (λ (k : ℕ). Ok k) (let q : n + suc (length js) ≡ n + 1 + length js = omega arith in q)
one_before n j (wrong p) = refl

begun_most : (d : Due) → begun d ≤ 1
begun_most Source = omega arith
begun_most (OfColumn i) = omega arith
begun_most (OfCell c) = omega arith
begun_most (Pair i j) = omega arith
begun_most (Digit i j) = omega arith
begun_most (Whole j) = omega arith

-- what the loop knows
pub record Checks (text : List ℕ) (due : Due) (moves at : ℕ) : Type 0 where
  pub upto : at ≤ length text
  pub few : moves + begun due ≤ at
  pub left : formed_by (line_in text) ≡ formed_after moves (read_from due at (drop at text))

pub no_text : (text : List ℕ) → length text ≡ 0 → Ok 0 ≡ formed_by (line_in text)
unfolding line_in
no_text [] e = refl
no_text (x ∷ text) e = absurd (let z : ⊥ = omega arith in z)

pub checks_start : (text : List ℕ) → (length text ≡ 0 → ⊥) → Checks text Source 0 0
checks_start text d =
    record {
      upto = omega arith;
      few = omega arith;
      left = ap formed_by (some_text text (some_long (length text) d)) ∙ none_before (read_from Source 0 text);
    }
  where
    some_long : (n : ℕ) → (n ≡ 0 → ⊥) → 1 ≤ n
    some_long n d = omega arith

module _ {text : List ℕ} {due : Due} {moves at : ℕ} (c : Checks text due moves at) where
  -- a sign more
  next : at < length text → formed_by (line_in text)
      ≡ formed_after moves (onward (step_from due (get_or text at 0)) at (λ e. read_from e (suc at) (drop (suc at) text)))
  unfolding read_from
  next h = c.left ∙ ap (λ (l : List ℕ). formed_after moves (read_from due at l)) (drop-cons text at 0 h)

  by : at < length text → {s : Step} → step_from due (get_or text at 0) ≡ s
      → formed_by (line_in text) ≡ formed_after moves (onward s at (λ e. read_from e (at + 1) (drop (at + 1) text)))
  by h {s} q =
      next h
      ∙ ap (λ (t : Step). formed_after moves (onward t at (λ e. read_from e (suc at) (drop (suc at) text)))) q
      ∙ ap (λ (n : ℕ). formed_after moves (onward s at (λ e. read_from e n (drop n text)))) (sym (add-one at))

  pub checks_on : {e : Due} → at < length text → step_from due (get_or text at 0) ≡ On e → Checks text e moves (at + 1)
  checks_on {e} h q = record { upto = omega arith; few = let f = c.few in let b = begun_most e in omega arith; left = by h q }

  pub checks_ends : {j : Jot} → at < length text → step_from due (get_or text at 0) ≡ Ends j → Checks text Source (moves + 1) (at + 1)
  checks_ends {j} h q =
      record {
        upto = omega arith;
        few = let f = c.few in omega arith;
        left = by h q ∙ one_before moves j (read_from Source (at + 1) (drop (at + 1) text));
      }

  pub checks_stop : at < length text → step_from due (get_or text at 0) ≡ Wrong → formed_by (line_in text) ≡ Err (record { place = at })
  checks_stop h q = by h q

  pub checks_end : length text ≤ at → formed_by (line_in text) ≡ formed_after moves (ending due (length text))
  unfolding read_from
  checks_end h =
      let u = c.upto in
      c.left
      ∙ ap (λ (n : ℕ). formed_after moves (read_from due n (drop n text))) (let q : at ≡ length text = omega arith in q)
      ∙ ap (λ (l : List ℕ). formed_after moves (read_from due (length text) l)) (drop-length text)

pub checks_same : {text : List ℕ} {due e : Due} {moves n at : ℕ} → due ≡ e → moves ≡ n → Checks text e n at → Checks text due moves at
checks_same {text} {due} {e} {moves} {n} {at} p q c =
    subst (λ (d : Due). Checks text d moves at) (sym p) (subst (λ (m : ℕ). Checks text e m at) (sym q) c)
