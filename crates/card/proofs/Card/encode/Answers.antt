-- What `encode` leaves to be shown: the value is judged first.
use Rattle.card.specs.Card.{code_asked}
use mathlib.Core.Path.{sym, ◌∙◌}
use Rattle.card.proofs.Card.encode.Goals as goal

pub code_of-requires : goal.code_of-requires
code_of-requires c = sym c.is_value.ensures ∙ c.if-is_value.true

pub returns-then-is_value : goal.returns-then-is_value
unfolding code_asked
returns-then-is_value c = rw (← c.is_value.ensures, c.if-is_value.true, c.code_of.ensures)

pub returns-else-is_value : goal.returns-else-is_value
unfolding code_asked
returns-else-is_value c = rw (← c.is_value.ensures, c.if-is_value.false)
