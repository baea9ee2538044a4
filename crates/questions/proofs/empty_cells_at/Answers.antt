-- What `empty_cells_at` leaves to be shown: the four cells are the whole list.
use mathlib.Core.Path.{◌∙◌}
use Rattle.questions.proofs.Asking.{empty_cells_lem}
use Rattle.questions.proofs.empty_cells_at.Goals as goal

pub returns : goal.returns
returns c = c.count_of.ensures ∙ empty_cells_lem c.args.cells.now c.requires.four
