-- How many cards of a suit have to be home before a card, case by case.
use mathlib.Core.Path.{◌≡◌, sym, ap, ap₂, ◌∙◌}
use mathlib.Core.Bool.{Bool, beq, true, false, cond, not, xor}
use Prim.Native.Nat.{ℕ, ◌-◌, ◌/◌, ◌%◌}
use borrow.Author.Tests.{eq-eqb, ne_eqb}
use lib.Dec.{eqb}
use Rattle.card.specs.Suit.{suit_at, color_of}
use Rattle.card.specs.Card.{card_of}
use Rattle.card.specs.declared.Suit.{Suit}
use Rattle.card.specs.declared.Card.{Card}
use Rattle.runs.specs.Follows.{is_red, red}
use Rattle.runs.proofs.Lying.{differ}
use Rattle.safe.specs.Safe.{red_suit, needed}

-- the suit s and the card x, as the code finds their colours
module _ (x s : ℕ) {other : Suit} {held : Card} (p : other ≡ suit_at s) (q : held ≡ card_of x) {a b : Bool} (e : a ≡ is_red (color_of other)) (f : b ≡ is_red (color_of held.suit)) where
  colours : not (beq a b) ≡ xor (red_suit s) (red x)
  unfolding red_suit red
  colours =
      differ a b
      ∙ ap₂ xor (e ∙ ap (λ (k : Suit). is_red (color_of k)) p) (f ∙ ap (λ (c : Card). is_red (color_of c.suit)) q)

  pub needs_one_less : not (beq a b) ≡ true → x / 16 - 1 ≡ needed x s
  unfolding needed
  needs_one_less h = rw (sym colours ∙ h)

  needs_by_suit : not (beq a b) ≡ false → needed x s ≡ cond (eqb s (x % 16)) 0 (x / 16 - 2)
  unfolding needed
  needs_by_suit h = rw (sym colours ∙ h)

  pub needs_none : not (beq a b) ≡ false → s ≡ x % 16 → 0 ≡ needed x s
  needs_none h k = sym (needs_by_suit h ∙ rw (eq-eqb s (x % 16) k))

  pub needs_two_less : not (beq a b) ≡ false → (s ≡ x % 16 → ⊥) → x / 16 - 2 ≡ needed x s
  needs_two_less h d = sym (needs_by_suit h ∙ rw (ne_eqb s (x % 16) d))
