-- What `home_at` leaves to be shown: the top of a foundation has its count as value.
use lib.ListN.{get_or}
use Rattle.play.proofs.Tops.{no_pile_top, a_pile_top}
use Rattle.play.proofs.rule.home_at.Goals as goal

pub returns-then-value-eq0 : goal.returns-then-value-eq0
returns-then-value-eq0 c =
    no_pile_top c.args.i (get_or c.args.foundation.now c.args.i 0) c.if-value-eq0.true

pub returns : goal.returns
returns c =
    a_pile_top c.args.i (get_or c.args.foundation.now c.args.i 0) c.requires.i_bound c.if-value-eq0.false c.suit_at-suit.ensures
