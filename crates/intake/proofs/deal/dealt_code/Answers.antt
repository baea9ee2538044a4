-- What `dealt_code` leaves to be shown: past the deck's end there is no card.
use mathlib.Core.Path.{sym}
use lib.ListN.{get_or-eq_default}
use Rattle.intake.proofs.deal.dealt_code.Goals as goal

pub returns : goal.returns
returns c = sym (get_or-eq_default c.args.deck.now 0 c.if-at-deck.false)
