-- What `top_value` leaves to be shown: the column's last card, if it has one.
use mathlib.Core.Path.{sym, ◌∙◌}
use Rattle.rules.proofs.Lengths.{no_value, last_value}
use Rattle.rules.proofs.top_value.Goals as goal

pub returns-in-Some : goal.returns-in-Some
returns-in-Some c = rw (sym c.column_at.ensures.value) (c.from.ensures ∙ last_value c.column_at.result.now c.in-Some.top.now c.in-Some.ensures.value)

pub returns-in-None : goal.returns-in-None
returns-in-None c = rw (sym c.column_at.ensures.value) (no_value c.column_at.result.now c.in-None.ensures.value)
