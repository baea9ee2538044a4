-- What the inner functions say of a move: the last three causes, by the place alone.
use Rattle.std.specs.Prelude.{ℕ}
use Rattle.base.specs.Answer.{unless}
use Rattle.board.specs.Table.{Table}
use Rattle.board.specs.Verdict.{Verdict, fine}
use Rattle.moves.specs.declared.Place.{Place}
use Rattle.moves.specs.Play.{fits_column, cell_free, next_home}
use Rattle.moves.specs.Causes.{cause_number, no_fit, cell_full, not_next}

unfoldable pub landing : Table → Place → ℕ → Verdict
landing t p x =
    unless (fits_column t p x) (cause_number no_fit) (unless (cell_free t p) (cause_number cell_full) (unless (next_home t p x) (cause_number not_next) fine))
