-- The whole text: the token and the answer of a board, a refusal's number, or 10.
use Rattle.std.specs.Prelude.{Err, Ok, Result}
use mathlib.Core.Path.{◌≡◌, sym, ap, ◌∙◌, subst}
use mathlib.Core.Bool.{Bool, true, false, cond}
use mathlib.Core.List.{List, [], ◌∷◌, ◌++◌}
use Prim.Native.Nat.{ℕ, ◌+◌, ◌<◌, ◌≤◌}
use native.Mathlib.Omega.{arith}
use borrow.Author.Tests.{le-leb, lt-leb}
use lib.Dec.{leb}
use lib.ListN.{length, drop, length-append}
use Rattle.base.specs.Answer.{Answer, given}
use Rattle.board.specs.Record.{shown}
use Rattle.board.specs.Refusal.{number_of, answered}
use Rattle.board.specs.declared.Board.{Board}
use Rattle.board.specs.declared.Refusal.{Refusal}
use Rattle.intake.specs.Image.{image_read}
use Rattle.intake.proofs.Accepted.{Fine, read_fine, fine_sound}
use Rattle.base.specs.Put.{Puts, over}
use Rattle.features.specs.Features.{features_of, Bounded}
use Rattle.score.specs.Token.{token_of}
use Rattle.features.specs.declared.Features.{Features}
use Rattle.features.proofs.Bounds.{bounded}
use Rattle.score.proofs.Digits.{token_32}
use Rattle.base.proofs.Putting.{puts_long, puts_more, puts_same, puts_over}
use Rattle.search.specs.Freecell.{judge}
use Rattle.onetext.specs.Text.{line, answer_text, hand_text, read_text, text}
use Rattle.onetext.specs.Told.{Tells}

-- ---- a board: its token, a newline, its answer

module _ {b : Board} (fine : Fine b) {f : Features} (e : f ≡ features_of (shown b)) where
  pub small : Bounded f
  small = subst Bounded (sym e) (bounded b (fine_sound fine))

  pub short : length (token_of f) ≤ 32
  short = token_32 f small

  module _ {old first : List ℕ} {k : ℕ} (room : 4096 ≤ length old) (p : Puts old first 0 k (token_of f)) where
    pub first-room : k + 1 ≤ length first
    first-room = let s = short in let l = puts_long (omega arith) p in let q = p.after in omega arith

    module _ {mid : List ℕ} {at : ℕ} (n : Puts first mid k at (10 ∷ [])) where
      pub next_room : at + 4012 ≤ length mid
      next_room =
          let s = short in
          let l = puts_long (omega arith) p in
          let q = p.after in
          let m = puts_long (omega arith) n in
          let o = n.after in
          omega arith

      pub hand_puts : {new : List ℕ} {r : ℕ} → Puts mid new at r (answer_text (judge (shown b) 100 64 false)) → Puts old new 0 r (hand_text (shown b))
      unfolding hand_text
      hand_puts {new} {r} a =
          let s = short in
          let l = puts_long (omega arith) p in
          let q = p.after in
          puts_same (ap (λ (g : Features). token_of g ++ ((10 ∷ []) ++ answer_text (judge (shown b) 100 64 false))) e)
          (puts_more (omega arith) p (puts_more (omega arith) n a))

-- ---- what is told

pub tells_short : (image old : List ℕ) → length old < 4096 → Tells image old old 0
tells_short image old h =
    record {
      count = ap (λ (b : Bool). cond b (length (text image)) 0) (sym (lt-leb 4096 (length old) h));
      room = ap (λ (b : Bool). cond b (over (text image) old) old) (sym (lt-leb 4096 (length old) h));
    }

pub tells_put : (image : List ℕ) {old new s : List ℕ} {r : ℕ} → 4096 ≤ length old → s ≡ text image → Puts old new 0 r s → Tells image old new r
tells_put image {old} {new} {s} {r} h e p =
    record {
      count = (let q = p.after in let z : r ≡ length s = omega arith in z) ∙ ap length e
          ∙ ap (λ (b : Bool). cond b (length (text image)) 0) (sym (le-leb 4096 (length old) h));
      room = puts_over (puts_same e p) ∙ ap (λ (b : Bool). cond b (over (text image) old) old) (sym (le-leb 4096 (length old) h));
    }

-- ---- which text it is

pub text_long : (image : List ℕ) → 1024 < length image → line (10 ∷ []) ≡ text image
unfolding text
text_long image h = ap (λ (b : Bool). cond b (read_text (image_read image)) (line (10 ∷ []))) (sym (lt-leb (length image) 1024 h))

module _ (image : List ℕ) (within : length image ≤ 1024) where
  text_read : {a : Answer Board} → image_read image ≡ a → read_text a ≡ text image
  unfolding text
  text_read e =
      ap read_text (sym e) ∙ ap (λ (b : Bool). cond b (read_text (image_read image)) (line (10 ∷ []))) (sym (le-leb (length image) 1024 within))

module _ (image : List ℕ) (within : length image ≤ 1024) {r : Result Board Refusal} (h : answered r ≡ image_read image) where
  pub text_refused : {why : Refusal} → r ≡ Err why → line (number_of why ∷ []) ≡ text image
  text_refused q = text_read image within (sym h ∙ ap answered q)

  given_board : {b : Board} → r ≡ Ok b → image_read image ≡ given b
  given_board q = sym h ∙ ap answered q

  pub text_given : {b : Board} → r ≡ Ok b → hand_text (shown b) ≡ text image
  text_given q = text_read image within (given_board q)

  pub read_board : {b : Board} → r ≡ Ok b → Fine b
  read_board q = read_fine image (given_board q)

-- ---- what is told lies within the room

pub tells_within : {image old new : List ℕ} {r : ℕ} → Tells image old new r → r ≤ length new
unfolding over
tells_within {image} {old} {new} {r} t = by_test (leb 4096 (length old)) t.count t.room
  where
    by_test : (b : Bool) → r ≡ cond b (length (text image)) 0 → new ≡ cond b (over (text image) old) old → r ≤ length new
    by_test true c e = let l = ap length e ∙ length-append (text image) (drop (length (text image)) old) in omega arith
    by_test false c e = omega arith
