-- The written moves of a line cut from its text, one after the other.
use mathlib.Core.Path.{◌≡◌, refl, sym, ap, ◌∙◌, subst}
use mathlib.Core.List.{List, [], ◌∷◌}
use Prim.Native.Nat.{ℕ, suc, ◌+◌, ◌<◌, ◌≤◌}
use native.Mathlib.Numerals.{add-one}
use native.Mathlib.Omega.{arith}
use native.Mathlib.Decide.{ℕ_discrete}
use borrow.Author.Tests.{lt-ltb, le-ltb}
use lib.ListN.{length, get_or, drop}
use lib.Seq.{drop-cons, drop-length}
use Rattle.notation.specs.Form.{step_from, Reading, jots, wrong, also, ending, onward, read_from, line_in}
use Rattle.reading.specs.Inner.{left_in, CutOrNot, CutAt, NoLine, Cuts, EndCuts, EndOrNot}
use Rattle.notation.specs.declared.Jot.{Jot}
use Rattle.notation.specs.declared.Due.{Due}
use Rattle.notation.specs.declared.Due.TheVariants.{Source}
use Rattle.notation.specs.declared.Step.{Step}
use Rattle.notation.specs.declared.Step.TheVariants.{On, Ends, Wrong}
use Rattle.std.specs.Prelude.{Option, Some, None}

-- ---- what is left of a line

pub left_some : (text : List ℕ) (at : ℕ) → at < length text → left_in text at ≡ read_from Source at (drop at text)
unfolding left_in
left_some text at h = rw (lt-ltb at (length text) h)

pub left_none : (text : List ℕ) (at : ℕ) → length text ≤ at → left_in text at ≡ jots []
unfolding left_in
left_none text at h = rw (le-ltb at (length text) h)

pub left_start : (text : List ℕ) → left_in text 0 ≡ line_in text
unfolding left_in line_in
left_start [] = refl
left_start (x ∷ text) = left_some (x ∷ text) 0 (omega arith)

-- ---- a reading that is a line

no_line : {A : Type 0} (p : ℕ) (js : List Jot) → wrong p ≡ jots js → A
no_line p js e = let z : ◌≡◌ {A = ℕ} 0 1 = cc in absurd (let w : ⊥ = omega arith in w)

also-line : (j : Jot) (r : Reading) (js : List Jot) → also j r ≡ jots js → (ks : List Jot) × ((js ≡ j ∷ ks) × (r ≡ jots ks))
also-line j (jots ks) js e = (ks, (let q : js ≡ j ∷ ks = cc in q, refl))
also-line j (wrong p) js e = no_line p js e

-- ---- sign by sign

-- what the loop knows: what is left where something is due is what was left where the move began
pub record Cutting (text : List ℕ) (at : ℕ) (due : Due) (i : ℕ) : Type 0 where
  pub begins : at < length text
  pub from : at ≤ i
  pub upto : i ≤ length text
  pub same : left_in text at ≡ read_from due i (drop i text)

pub cutting_start : (text : List ℕ) (at : ℕ) → at < length text → Cutting text at Source at
cutting_start text at h = record { begins = h; from = omega arith; upto = omega arith; same = left_some text at h }

module _ {text : List ℕ} {at : ℕ} {due : Due} {i : ℕ} (c : Cutting text at due i) where
  by : i < length text → {s : Step} → step_from due (get_or text i 0) ≡ s → left_in text at ≡ onward s i (λ e. read_from e (i + 1) (drop (i + 1) text))
  unfolding read_from
  by h {s} q =
      c.same ∙ ap (read_from due i) (drop-cons text i 0 h)
      ∙ ap (λ (t : Step). onward t i (λ e. read_from e (suc i) (drop (suc i) text))) q
      ∙ ap (λ (n : ℕ). onward s i (λ e. read_from e n (drop n text))) (sym (add-one i))

  pub cutting_on : {e : Due} → i < length text → step_from due (get_or text i 0) ≡ On e → Cutting text at e (i + 1)
  cutting_on h q = let b = c.begins in let f = c.from in record { begins = b; from = omega arith; upto = omega arith; same = by h q }

  pub cutting_stop : i < length text → step_from due (get_or text i 0) ≡ Wrong → NoLine text at
  cutting_stop h q = record { never = λ js e. no_line i js (sym (by h q) ∙ e) }

  -- a space: more comes after it, or the text is no line
  pub cutting_ends : {j : Jot} → i < length text → step_from due (get_or text i 0) ≡ Ends j → CutAt text at j (i + 1)
  unfolding read_from
  cutting_ends {j} h q =
      let f = c.from in
      record {
        on = omega arith;
        within = omega arith;
        first = λ js e.
            let a = also-line j (read_from Source (i + 1) (drop (i + 1) text)) js (sym (by h q) ∙ e) in
            (a.0, (a.1.0, more a.0 a.1.1 (ℕ_discrete (i + 1) (length text))));
      }
    where
      more : (ks : List Jot) → read_from Source (i + 1) (drop (i + 1) text) ≡ jots ks → Dec (i + 1 ≡ length text) → left_in text (i + 1) ≡ jots ks
      more ks r (yes e) =
          no_line (i + 1) ks
          (sym (ap (read_from Source (i + 1)) (ap (λ (n : ℕ). drop n text) e ∙ drop-length text)) ∙ r)
      more ks r (no d) = left_some text (i + 1) (omega arith) ∙ r

  at_end : length text ≤ i → left_in text at ≡ ending due (length text)
  unfolding read_from
  at_end h =
      let u = c.upto in
      c.same
      ∙ ap (λ (n : ℕ). read_from due n (drop n text)) (let q : i ≡ length text = omega arith in q)
      ∙ ap (read_from due (length text)) (drop-length text)

  pub cutting_end : length text ≤ i → {r : Option (Jot × ℕ)} → EndCuts due (length text) r → Cuts text at r
  cutting_end h {r} t = record { told = by_cut r t.told }
    where
      by_cut : (r : Option (Jot × ℕ)) → EndOrNot due (length text) r → CutOrNot text at r
      by_cut (Some (j, next)) e =
          let b = c.begins in
          let u = c.upto in
          let n = e.0 in
          record {
            on = omega arith;
            within = omega arith;
            first = λ js q.
                let k = sym (at_end h ∙ e.1) ∙ q in
                ([], (let z : js ≡ j ∷ [] = cc in z, left_none text next (omega arith)));
          }
      by_cut None e = record { never = λ js q. no_line (length text) js (sym (at_end h ∙ e) ∙ q) }

-- ---- by what was answered

module _ {text : List ℕ} {at : ℕ} {r : Option (Jot × ℕ)} (t : Cuts text at r) where
  pub cut_is : {j : Jot} {next : ℕ} → r ≡ Some (j, next) → CutAt text at j next
  cut_is e = subst (CutOrNot text at) e t.told

  pub cut_no : r ≡ None → NoLine text at
  cut_no e = subst (CutOrNot text at) e t.told
