-- What `deck_of` leaves to be shown: a card at each turn, and the pack that is left.
use Rattle.shuffle.proofs.Drawing.{Drawing}
use Rattle.shuffle.proofs.deck_of.Given as goal

abbrev pub invariant-loop-dealt : goal.invariant-loop-dealt
invariant-loop-dealt l = Drawing l.number l.card-items l.pack l.state l.dealt
