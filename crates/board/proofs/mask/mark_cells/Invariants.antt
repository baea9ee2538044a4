-- What `mark_cells` leaves to be shown: a loop over the cells, each a list of one card or none.
use mathlib.Core.Path.{◌≡◌, sym, subst}
use mathlib.Core.List.{List, ◌∷◌, []}
use Prim.Native.Nat.{ℕ, ◌-◌}
use lib.ListN.{length, get_or}
use Rattle.base.specs.Words.{listed, concat}
use Rattle.board.specs.Inner.{Marks}
use Rattle.std.specs.Prelude.{Option}
use Rattle.board.proofs.Marks.{Passed}
use Rattle.board.specs.Table.{held}
use Rattle.board.proofs.Tables.{held-each}
use Rattle.board.proofs.mask.mark_cells.Given as goal

abbrev each : List ℕ → ℕ → List ℕ
each cells i = held (get_or cells i 0 ∷ [])

whole : {seen : ℕ} (cells : List ℕ) {r : Option ℕ} → length cells ≡ 4 → Marks seen (concat (listed 4 (each cells))) r → Marks seen (held cells) r
whole {seen} cells {r} e m =
    subst (λ (l : List ℕ). Marks seen l r) (held-each cells) (subst (λ (n : ℕ). Marks seen (concat (listed n (each cells))) r) (sym e) m)

abbrev pub invariant-loop-code : goal.invariant-loop-code
invariant-loop-code l = Passed l.seen (each l.cells) 4 l.cards l.code-index
