-- What `fit_at` leaves to be shown: the column's last card decides, if it has one.
use mathlib.Core.Path.{sym, ◌∙◌}
use Rattle.rules.proofs.Laying.{fits_none, fits_last}
use Rattle.rules.proofs.fit_at.Goals as goal

pub returns-in-Some : goal.returns-in-Some
returns-in-Some c = c.may_lie_on.ensures ∙ sym (rw (sym c.column_at.ensures.value) (fits_last c.column_at.result.now c.args.code c.in-Some.top.now c.in-Some.ensures.value))

pub returns-in-None : goal.returns-in-None
returns-in-None c = rw (sym c.column_at.ensures.value) (sym (fits_none c.column_at.result.now c.args.code c.in-None.ensures.value))
