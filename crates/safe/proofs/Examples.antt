-- Known hand P11 of SCOPE.md, the three of hearts, whatever hearts are home.
use mathlib.Core.Path.{◌≡◌, refl, ap}
use mathlib.Core.Bool.{Bool, true, false, ◌&&◌, xor}
use mathlib.Core.List.{[], ◌∷◌}
use Prim.Native.Nat.{ℕ}
use native.Mathlib.Omega.{arith}
use borrow.Author.Tests.{le-leb}
use Rattle.base.specs.Words.{every}
use Rattle.card.specs.Suit.{suit_at}
use Rattle.card.specs.Card.{card_of, code_of}
use Rattle.card.specs.declared.Suit.TheVariants.{Heart}
use Rattle.runs.specs.Follows.{red}
use Rattle.safe.specs.Safe.{red_suit, needed, safe}

abbrev three : ℕ
three = 50

pub three_of_hearts : code_of (record { suit = Heart; value = 3 }) ≡ three
unfolding code_of
three_of_hearts = refl

-- two clubs, one diamond, two spades are home
pub P11 : (hearts : ℕ) → safe (2 ∷ 1 ∷ hearts ∷ 2 ∷ []) three ≡ true
unfolding safe every needed red_suit red suit_at card_of xor
P11 hearts = ap (λ (b : Bool). b && true) (le-leb 0 hearts (omega arith))

pub P11_spades : (hearts : ℕ) → safe (2 ∷ 1 ∷ hearts ∷ 1 ∷ []) three ≡ false
unfolding safe every needed red_suit red suit_at card_of xor
P11_spades hearts = ap (λ (b : Bool). b && false) (le-leb 0 hearts (omega arith))

pub P11_diamonds : (hearts : ℕ) → safe (2 ∷ 0 ∷ hearts ∷ 2 ∷ []) three ≡ false
unfolding safe every needed red_suit red suit_at card_of xor
P11_diamonds hearts = refl
