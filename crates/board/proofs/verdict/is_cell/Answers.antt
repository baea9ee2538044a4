-- What `is_cell` leaves to be shown: FF first.
use mathlib.Core.Path.{refl}
use borrow.Author.Tests.{eq-eqb, ne_eqb}
use Rattle.board.specs.Verdict.{is_cell}
use Rattle.board.proofs.verdict.is_cell.Goals as goal

pub returns-then-code-eq255 : goal.returns-then-code-eq255
unfolding is_cell
returns-then-code-eq255 c = rw (eq-eqb c.args.code 255 c.if-code-eq255.true) refl

pub returns-else-code-eq255 : goal.returns-else-code-eq255
unfolding is_cell
returns-else-code-eq255 c = rw (ne_eqb c.args.code 255 c.if-code-eq255.false, ← c.is_card.ensures) refl
