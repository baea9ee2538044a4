-- What `empty_columns_at` leaves to be shown: a column is empty exactly if its count is 0.
use mathlib.Core.Path.{◌∙◌}
use Rattle.questions.proofs.Asking.{empty_columns_lem}
use Rattle.questions.proofs.empty_columns_at.Goals as goal

pub returns : goal.returns
returns c = c.count_of.ensures ∙ empty_columns_lem c.requires
