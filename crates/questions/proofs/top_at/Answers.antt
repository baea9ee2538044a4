-- What `top_at` leaves to be shown: the last card of the column, if it has one.
use Rattle.std.specs.Prelude.{Some}
use mathlib.Core.Path.{ap, ◌∙◌}
use Rattle.questions.proofs.Asking.{no_top, a_top}
use Rattle.questions.proofs.top_at.Goals as goal

pub returns-then-count-eq0 : goal.returns-then-count-eq0
returns-then-count-eq0 c = no_top c.requires.good_columns c.args.i c.from-count.result c.requires.i_bound c.from-count.ensures c.if-count-eq0.true

pub returns : goal.returns
returns c = ap Some c.card_of.ensures ∙ a_top c.requires.good_columns c.args.i c.from-count.result c.requires.i_bound c.from-count.ensures c.if-count-eq0.false
