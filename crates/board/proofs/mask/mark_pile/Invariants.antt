-- What `mark_pile` leaves to be shown: a loop over the suit's cards, ace upward.
use mathlib.Core.Path.{subst}
use mathlib.Core.List.{List, ◌∷◌, []}
use Prim.Native.Nat.{ℕ, ◌+◌, ◌-◌, ◌*◌}
use Rattle.base.specs.Words.{listed, concat}
use Rattle.board.specs.Inner.{Marks}
use Rattle.std.specs.Prelude.{Option}
use Rattle.board.proofs.Marks.{Passed}
use Rattle.base.proofs.Words.{singles_listed}
use Rattle.board.specs.Table.{pile}
use Rattle.board.proofs.mask.mark_pile.Given as goal

abbrev each : ℕ → ℕ → List ℕ
each suit v = ((v + 1) * 16 + suit) ∷ []

whole : {seen : ℕ} (suit count : ℕ) {r : Option ℕ} → Marks seen (concat (listed count (each suit))) r → Marks seen (pile suit count) r
unfolding pile
whole {seen} suit count {r} m = subst (λ (l : List ℕ). Marks seen l r) (singles_listed (λ v. (v + 1) * 16 + suit) count) m

abbrev pub invariant-loop-v : goal.invariant-loop-v
invariant-loop-v l = Passed l.seen (each l.suit) l.count l.cards l.v
