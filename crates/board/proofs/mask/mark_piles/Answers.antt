-- What `mark_piles` leaves to be shown: a loop over the four piles.
use mathlib.Core.List.{List}
use Prim.Native.Nat.{ℕ}
use native.Mathlib.Omega.{arith}
use lib.ListN.{get_or}
use Rattle.base.specs.Words.{listed, concat}
use Rattle.board.specs.Inner.{Marks}
use Rattle.std.specs.Prelude.{Option}
use Rattle.board.proofs.Marks.{pass_none, pass_more, pass_stop, pass_end}
use Rattle.board.specs.Table.{pile, piles}
use Rattle.board.proofs.mask.mark_piles.Goals as goal

abbrev each : List ℕ → ℕ → List ℕ
each foundation s = pile s (get_or foundation s 0)

whole : {seen : ℕ} (foundation : List ℕ) {r : Option ℕ} → Marks seen (concat (listed 4 (each foundation))) r → Marks seen (piles foundation) r
unfolding piles
whole foundation m = m

pub loop-s-init : goal.loop-s-init
loop-s-init c = pass_none _ _ c.requires.seen_bound

pub bounds-foundation-s : goal.bounds-foundation-s
bounds-foundation-s c = omega (arith, c.requires.good_piles.four)

pub mark_pile-requires : goal.mark_pile-requires
mark_pile-requires c = record { seen_bound = c.loop-s.invariant.marks.below; suit_bound = c.loop-s-test.true; count_bound = c.requires.good_piles.within c.loop-s.s c.loop-s-test.true }

pub returns-in_err-cards : goal.returns-in_err-cards
returns-in_err-cards c = rw c.from_residual.ensures (whole _ (pass_stop _ _ c.loop-s.invariant c.loop-s-test.true c.mark_pile.ensures c.in_err-cards.was))

pub loop-s-preserved : goal.loop-s-preserved
loop-s-preserved c = pass_more _ _ c.loop-s.invariant c.loop-s-test.true c.mark_pile.ensures c.in_ok-cards.was

pub returns : goal.returns
returns c = whole _ (pass_end _ _ c.loop-s.invariant c.loop-s-test.false)
