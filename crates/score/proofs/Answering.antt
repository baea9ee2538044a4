-- What is asked of a board, from the features told: refused first, else known to be small.
use Rattle.std.specs.Prelude.{Err, Ok, Result}
use mathlib.Core.Path.{◌≡◌, refl, sym, ap, ◌∙◌, subst}
use mathlib.Core.List.{List}
use Prim.Native.Nat.{ℕ, ◌+◌, ◌<◌, ◌≤◌}
use native.Mathlib.Omega.{arith}
use borrow.Author.Tests.{le-leb, lt-leb}
use lib.ListN.{length}
use Rattle.base.specs.Answer.{Answer, given, refused}
use Rattle.board.specs.Verdict.{Verdict, fine, after}
use Rattle.board.specs.Record.{shown, examined}
use Rattle.board.specs.Refusal.{number_of, answered}
use Rattle.board.specs.Inner.{Sized}
use Rattle.board.specs.declared.Board.{Board}
use Rattle.board.specs.declared.Refusal.{Refusal}
use Rattle.board.proofs.Soundness.{sound}
use Rattle.features.specs.Features.{features_of, Bounded}
use Rattle.score.specs.Token.{token_of}
use Rattle.base.specs.Put.{Puts}
use Rattle.score.specs.Asked.{features_asked, token_asked, room_after, Writes}
use Rattle.features.specs.declared.Features.{Features}
use Rattle.features.proofs.Bounds.{bounded}
use Rattle.base.proofs.Putting.{puts_same, puts_over}

-- ---- an answer after a verdict

after_given : {A : Type 0} (v : Verdict) (x : A) {y : A} → given y ≡ after v (given x) → (v ≡ fine) × (y ≡ x)
after_given (given u) x e = (refl, cc)
after_given (refused n) x e = let z : ◌≡◌ {A = ℕ} 0 1 = cc in absurd (let w : ⊥ = omega arith in w)

after_refused : {A : Type 0} (v : Verdict) (x : A) {n : ℕ} → refused n ≡ after v (given x) → refused n ≡ v
after_refused (given u) x e = let z : ◌≡◌ {A = ℕ} 0 1 = cc in absurd (let w : ⊥ = omega arith in w)
after_refused (refused m) x e = cc

-- ---- the features told decide

module _ (b : Board) {r : Result Features Refusal} (e : answered r ≡ features_asked b) where
  pub told_no : {A : Type 0} (a : Answer A) {why : Refusal} → r ≡ Err why → refused (number_of why) ≡ after (examined b) a
  unfolding features_asked
  told_no a q = ap (λ (v : Verdict). after v a) (after_refused (examined b) (features_of (shown b)) (ap answered (sym q) ∙ e))

  module _ {f : Features} (q : r ≡ Ok f) where
    told_yes : (examined b ≡ fine) × (f ≡ features_of (shown b))
    unfolding features_asked
    told_yes = after_given (examined b) (features_of (shown b)) (ap answered (sym q) ∙ e)

    pub told_given : {A : Type 0} (a : Features → Answer A) → a f ≡ after (examined b) (a (features_of (shown b)))
    told_given a = ap a told_yes.1 ∙ sym (ap (λ (v : Verdict). after v (a (features_of (shown b)))) told_yes.0)

    told_same : f ≡ features_of (shown b)
    told_same = told_yes.1

    pub told_small : Sized b → Bounded f
    told_small z = subst Bounded (sym told_yes.1) (bounded b (sound b z told_yes.0))

-- ---- the token: 21 for too little room

module _ (b : Board) (old : List ℕ) where
  pub writes_no : {why : Refusal} → refused (number_of why) ≡ token_asked b (length old) → Writes b old old (Err why)
  writes_no e = record { told = e; room = ap (λ (a : Answer ℕ). room_after a old (token_of (features_of (shown b)))) e }

  module _ {r : Result Features Refusal} (e : answered r ≡ features_asked b) where
    pub token_refused : {why : Refusal} → r ≡ Err why → refused (number_of why) ≡ token_asked b (length old)
    unfolding token_asked
    token_refused q = told_no b e _ q

    pub token_short : {f : Features} → r ≡ Ok f → length old < 32 → refused 21 ≡ token_asked b (length old)
    unfolding token_asked
    token_short q h = rw (lt-leb 32 (length old) h) (told_given b e q (λ f. refused 21))

    pub writes_yes : {f : Features} → r ≡ Ok f → 32 ≤ length old → {new : List ℕ} {n : ℕ} → Puts old new 0 n (token_of f) → Writes b old new (Ok n)
    unfolding token_asked
    writes_yes {f} q h {new} {n} p =
        record {
          told = ap given (p.after ∙ (let z : 0 + length (token_of f) ≡ length (token_of f) = omega arith in z)) ∙ asked;
          room = puts_over (puts_same (ap token_of (told_same b e q)) p) ∙ ap (λ (a : Answer ℕ). room_after a old (token_of (features_of (shown b)))) asked;
        }
      where
        asked : given (length (token_of f)) ≡ token_asked b (length old)
        asked = rw (le-leb 32 (length old) h) (told_given b e q (λ g. given (length (token_of g))))
