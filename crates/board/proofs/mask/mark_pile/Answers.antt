-- What `mark_pile` leaves to be shown: a loop over the suit's cards, ace upward.
use mathlib.Core.Path.{subst}
use mathlib.Core.List.{List, ◌∷◌, []}
use Prim.Native.Nat.{ℕ, ◌+◌, ◌*◌}
use native.Mathlib.Omega.{arith}
use Rattle.base.specs.Words.{listed, concat}
use Rattle.board.specs.Inner.{Marks}
use Rattle.std.specs.Prelude.{Option}
use Rattle.board.proofs.Marks.{pass_none, pass_more, pass_stop, pass_end}
use Rattle.base.proofs.Words.{singles_listed}
use Rattle.card.proofs.Codes.{code_in_suit}
use Rattle.board.specs.Table.{pile}
use Rattle.board.proofs.mask.mark_pile.Goals as goal

abbrev each : ℕ → ℕ → List ℕ
each suit v = ((v + 1) * 16 + suit) ∷ []

whole : {seen : ℕ} (suit count : ℕ) {r : Option ℕ} → Marks seen (concat (listed count (each suit))) r → Marks seen (pile suit count) r
unfolding pile
whole {seen} suit count {r} m = subst (λ (l : List ℕ). Marks seen l r) (singles_listed (λ v. (v + 1) * 16 + suit) count) m

pub loop-v-init : goal.loop-v-init
loop-v-init c = pass_none _ _ c.requires.seen_bound

pub mark-requires : goal.mark-requires
mark-requires c =
    record { seen_bound = c.loop-v.invariant.marks.below; code_value = code_in_suit c.args.suit c.loop-v.v c.requires.suit_bound (omega arith) }

pub returns-in_err-cards : goal.returns-in_err-cards
returns-in_err-cards c = rw c.from_residual.ensures (whole _ _ (pass_stop _ _ c.loop-v.invariant c.loop-v-test.true c.mark.ensures c.in_err-cards.was))

pub loop-v-preserved : goal.loop-v-preserved
loop-v-preserved c = pass_more _ _ c.loop-v.invariant c.loop-v-test.true c.mark.ensures c.in_ok-cards.was

pub returns : goal.returns
returns c = whole _ _ (pass_end _ _ c.loop-v.invariant c.loop-v-test.false)
