-- What `suit_at` leaves to be shown: each arm's number is the definition's.
use mathlib.Core.Path.{◌≡◌, refl}
use Prim.Native.Nat.{ℕ, zero, suc}
use borrow.Author.Rules.{rules}
use Rattle.card.specs.declared.Suit.TheVariants.{Spade}
use Rattle.card.specs.Suit.{suit_at}
use Rattle.card.proofs.suit_at.Goals as goal

other : (n : ℕ) → (n ≡ 0 → ⊥) → (n ≡ 1 → ⊥) → (n ≡ 2 → ⊥) → Spade ≡ suit_at n
unfolding suit_at
other zero a b d = absurd (a refl)
other (suc zero) a b d = absurd (b refl)
other (suc (suc zero)) a b d = absurd (d refl)
other (suc (suc (suc n))) a b d = refl

pub returns-in-0 : goal.returns-in-0
unfolding suit_at
returns-in-0 c = search rules

pub returns-in-1 : goal.returns-in-1
unfolding suit_at
returns-in-1 c = search rules

pub returns-in-2 : goal.returns-in-2
unfolding suit_at
returns-in-2 c = search rules

pub returns-in_default : goal.returns-in_default
returns-in_default c = other c.args.v c.in_default.in_default-own.rest.0.0.1 c.in_default.in_default-own.rest.0.1 c.in_default.in_default-own.rest.1
