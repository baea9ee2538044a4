-- What `mark_cell` leaves to be shown: an empty cell adds nothing, any other its card.
use Rattle.std.specs.Prelude.{Some}
use mathlib.Core.Path.{sym, subst}
use mathlib.Core.List.{List}
use Prim.Native.Nat.{ℕ}
use Rattle.board.specs.Inner.{Marks}
use Rattle.board.proofs.Marks.{marks_none}
use Rattle.board.proofs.Tables.{cell_empty, cell_card, cell_is_card}
use Rattle.board.proofs.mask.mark_cell.Goals as goal

pub returns-then-code-eq255 : goal.returns-then-code-eq255
returns-then-code-eq255 c =
    subst (λ (l : List ℕ). Marks c.args.seen l (Some c.args.seen)) (sym (cell_empty c.args.code c.if-code-eq255.true))
    (marks_none c.args.seen c.requires.seen_bound)

pub mark-requires : goal.mark-requires
mark-requires c = record { seen_bound = c.requires.seen_bound; code_value = cell_is_card c.args.code c.requires.code_value c.if-code-eq255.false }

pub returns : goal.returns
returns c =
    subst (λ (l : List ℕ). Marks c.args.seen l c.mark.result) (sym (cell_card c.args.code c.if-code-eq255.false))
    c.mark.ensures
