-- What `mark_piles` leaves to be shown: a loop over the four piles.
use mathlib.Core.List.{List}
use Prim.Native.Nat.{ℕ, ◌-◌}
use lib.ListN.{get_or}
use Rattle.base.specs.Words.{listed, concat}
use Rattle.board.specs.Inner.{Marks}
use Rattle.std.specs.Prelude.{Option}
use Rattle.board.proofs.Marks.{Passed}
use Rattle.board.specs.Table.{pile, piles}
use Rattle.board.proofs.mask.mark_piles.Given as goal

abbrev each : List ℕ → ℕ → List ℕ
each foundation s = pile s (get_or foundation s 0)

whole : {seen : ℕ} (foundation : List ℕ) {r : Option ℕ} → Marks seen (concat (listed 4 (each foundation))) r → Marks seen (piles foundation) r
unfolding piles
whole foundation m = m

abbrev pub invariant-loop-s : goal.invariant-loop-s
invariant-loop-s l = Passed l.seen (each l.foundation) 4 l.cards l.s
