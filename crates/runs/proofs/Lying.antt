-- Whether a card may lie on another, by values and colours.
use mathlib.Core.Path.{◌≡◌, refl}
use mathlib.Core.Bool.{Bool, true, false, not, xor, beq}
use Prim.Native.Nat.{ℕ, ◌+◌, ◌/◌}
use borrow.Author.Tests.{eq-eqb}
use Rattle.runs.specs.Follows.{red, follows}

pub differ : (a b : Bool) → not (beq a b) ≡ xor a b
unfolding xor
differ true true = refl
differ true false = refl
differ false true = refl
differ false false = refl

pub lies : (upper lower : ℕ) {a b : Bool} → upper / 16 ≡ lower / 16 + 1 → a ≡ red upper → b ≡ red lower → not (beq a b) ≡ follows upper lower
unfolding follows
lies upper lower {a} {b} e p q = rw (eq-eqb (upper / 16) (lower / 16 + 1) e, ← p, ← q) (differ a b)
