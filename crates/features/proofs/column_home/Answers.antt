-- What `column_home` leaves to be shown: the last card of the column, if it has one.
use mathlib.Core.Path.{sym, ◌∙◌}
use Rattle.features.proofs.Homing.{column_none, column_last}
use Rattle.features.proofs.column_home.Goals as goal

pub returns-in-Some : goal.returns-in-Some
returns-in-Some c = rw (sym c.column_at.ensures.value) (c.home_takes.ensures ∙ column_last c.args.foundation.now c.column_at.result.now c.in-Some.code.now c.in-Some.ensures.value)

pub returns-in-None : goal.returns-in-None
returns-in-None c = rw (sym c.column_at.ensures.value) (column_none c.args.foundation.now c.column_at.result.now c.in-None.ensures.value)
