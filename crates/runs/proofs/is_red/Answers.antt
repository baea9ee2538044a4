-- What `is_red` leaves to be shown: the colour's case.
use mathlib.Core.Path.{sym, ap, ◌∙◌}
use Rattle.runs.specs.Follows.{is_red, red}
use Rattle.card.specs.Suit.{color_of}
use Rattle.card.specs.declared.Card.{Card}
use Rattle.runs.proofs.is_red.Goals as goal

pub returns-in-Red : goal.returns-in-Red
unfolding red
returns-in-Red c =
    ap is_red (sym c.in-Red.is ∙ c.color.ensures ∙ ap (λ (k : Card). color_of k.suit) c.card_of.ensures)

pub returns-in_default : goal.returns-in_default
unfolding red
returns-in_default c =
    ap is_red (sym c.in_default.is ∙ c.color.ensures ∙ ap (λ (k : Card). color_of k.suit) c.card_of.ensures)
