-- What `visit` leaves to be shown: a node is won, too deep or expanded.
use Rattle.turns.proofs.Turning.{stands, visit_won, visit_deep, visit_full, visit_grown, full_expands, grown_expands}
use Rattle.turns.proofs.visit.Goals as goal

pub returns-then-won_at : goal.returns-then-won_at
returns-then-won_at c = visit_won c.requires.stood c.board_of-b.ensures.value c.board_of-b.ensures.sound_2 c.won_at.ensures c.if-won_at.true

pub returns-then-cost-ge-MOST_MOVES : goal.returns-then-cost-ge-MOST_MOVES
returns-then-cost-ge-MOST_MOVES c = visit_deep c.requires.stood c.board_of-b.ensures.value c.board_of-b.ensures.sound_2 c.won_at.ensures c.if-won_at.false c.requires.cost_value c.if-cost-ge-MOST_MOVES.true

pub expand-requires-clause-stands : goal.expand-requires-clause-stands
expand-requires-clause-stands c = stands c.requires.stood c.board_of-b.ensures.value c.board_of-b.ensures.sound_2

pub returns-in-None : goal.returns-in-None
returns-in-None c = visit_full c.requires.stood c.board_of-b.ensures.value c.board_of-b.ensures.sound_2 c.won_at.ensures c.if-won_at.false c.requires.cost_value c.if-cost-ge-MOST_MOVES.false (full_expands c.expand.ensures c.in-None.is)

pub returns-in-Some : goal.returns-in-Some
returns-in-Some c = visit_grown c.requires.stood c.board_of-b.ensures.value c.board_of-b.ensures.sound_2 c.won_at.ensures c.if-won_at.false c.requires.cost_value c.if-cost-ge-MOST_MOVES.false (grown_expands c.expand.ensures c.in-Some.is)
