-- What `mark` leaves to be shown: the shifts stay within a word, and the bit tested is the card's.
use Rattle.std.specs.Prelude.{Some, None}
use mathlib.Core.Path.{◌≡◌, sym, ap, ◌∙◌, subst}
use mathlib.Core.Bool.{true}
use mathlib.Core.List.{◌∷◌, []}
use Prim.Native.Nat.{ℕ, ◌+◌, ◌*◌, ◌/◌, ◌%◌, ◌^◌, ◌<◌}
use native.Mathlib.Omega.{arith}
use lib.Pow.{pow-lt}
use Rattle.card.specs.Card.{is_card}
use Rattle.card.specs.Pack.{place_of}
use Rattle.card.proofs.Codes.{place_below_lem}
use Rattle.board.specs.Inner.{bit_at, Marks}
use Rattle.board.proofs.Bits.{bit_word}
use Rattle.board.proofs.Marks.{mark_again, mark_new}
use Rattle.board.proofs.mask.mark.Goals as goal

module _ (seen code k : ℕ) (card : is_card code ≡ true) (e : k ≡ place_of code) where
  below : k < 52
  below = omega (arith, place_below_lem code card)

  word : (1 * 2 ^ k) % 2 ^ 64 ≡ 2 ^ k
  word = bit_word k (let b = below in omega arith)

  again : seen / 2 ^ k % 2 ≡ 1 → Marks seen (code ∷ []) None
  unfolding bit_at
  again h = mark_again seen code card (subst (λ (j : ℕ). seen / 2 ^ j % 2 ≡ 1) e h)

  new : seen < 2 ^ 52 → (seen / 2 ^ k % 2 ≡ 1 → ⊥) → Marks seen (code ∷ []) (Some (seen + (1 * 2 ^ k) % 2 ^ 64))
  unfolding bit_at
  new b h =
      subst (λ (m : ℕ). Marks seen (code ∷ []) (Some (seen + m))) (ap (λ (j : ℕ). 2 ^ j) (sym e) ∙ sym word)
      (mark_new seen code card b (λ q. h (subst (λ (j : ℕ). seen / 2 ^ j % 2 ≡ 1) (sym e) q)))

  sum_below : seen < 2 ^ 52 → seen + (1 * 2 ^ k) % 2 ^ 64 < 2 ^ 64
  sum_below b = let q = pow-lt {i = k} {j = 52} below in let w = word in omega arith

pub overflow_shr-above : goal.overflow_shr-above
overflow_shr-above c = omega (arith, c.place_of-place.ensures, place_below_lem c.args.code c.requires.code_value)

pub returns-then-above-eq1 : goal.returns-then-above-eq1
returns-then-above-eq1 c = again c.args.seen c.args.code c.place_of-place.result c.requires.code_value c.place_of-place.ensures c.if-above-eq1.true

pub overflow_shl-bit : goal.overflow_shl-bit
overflow_shl-bit c = omega (arith, c.place_of-place.ensures, place_below_lem c.args.code c.requires.code_value)

pub overflow_add-result : goal.overflow_add-result
overflow_add-result c =
    record {
      fits = sum_below c.args.seen c.args.code c.place_of-place.result c.requires.code_value
          c.place_of-place.ensures c.requires.seen_bound;
    }

pub returns : goal.returns
returns c =
    new c.args.seen c.args.code c.place_of-place.result c.requires.code_value
    c.place_of-place.ensures c.requires.seen_bound c.if-above-eq1.false
