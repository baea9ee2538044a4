-- What `mark_cells` leaves to be shown: a loop over the cells, each a list of one card or none.
use mathlib.Core.Path.{◌≡◌, sym, subst}
use mathlib.Core.List.{List, ◌∷◌, []}
use Prim.Native.Nat.{ℕ}
use native.Mathlib.Omega.{arith}
use lib.ListN.{length, get_or}
use Rattle.base.specs.Words.{listed, concat}
use Rattle.board.specs.Inner.{Marks}
use Rattle.std.specs.Prelude.{Option}
use Rattle.board.proofs.Marks.{pass_none, pass_more, pass_stop, pass_end}
use Rattle.board.specs.Table.{held}
use Rattle.board.proofs.Tables.{held-each}
use Rattle.board.proofs.mask.mark_cells.Goals as goal

abbrev each : List ℕ → ℕ → List ℕ
each cells i = held (get_or cells i 0 ∷ [])

whole : {seen : ℕ} (cells : List ℕ) {r : Option ℕ} → length cells ≡ 4 → Marks seen (concat (listed 4 (each cells))) r → Marks seen (held cells) r
whole {seen} cells {r} e m =
    subst (λ (l : List ℕ). Marks seen l r) (held-each cells) (subst (λ (n : ℕ). Marks seen (concat (listed n (each cells))) r) (sym e) m)

pub loop-code-init : goal.loop-code-init
loop-code-init c = pass_none _ _ c.requires.seen_bound

pub bounds-cells-code-index : goal.bounds-cells-code-index
bounds-cells-code-index c = omega (arith, c.requires.good_cells.four)

pub mark_cell-requires : goal.mark_cell-requires
mark_cell-requires c = record { seen_bound = c.loop-code.invariant.marks.below; code_value = c.requires.good_cells.codes c.loop-code.code-index c.loop-code-test.true }

pub returns-in_err-cards : goal.returns-in_err-cards
returns-in_err-cards c = rw c.from_residual.ensures (whole _ c.requires.good_cells.four
    (pass_stop _ _ c.loop-code.invariant c.loop-code-test.true c.mark_cell.ensures c.in_err-cards.was))

pub loop-code-preserved : goal.loop-code-preserved
loop-code-preserved c = pass_more _ _ c.loop-code.invariant c.loop-code-test.true c.mark_cell.ensures c.in_ok-cards.was

pub returns : goal.returns
returns c = whole _ c.requires.good_cells.four (pass_end _ _ c.loop-code.invariant c.loop-code-test.false)
