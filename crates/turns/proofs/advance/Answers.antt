-- What `advance` leaves to be shown: the first of the waiting is a node that is born.
use mathlib.Core.Path.{◌∙◌}
use Rattle.turns.proofs.Taken.{entry_in_use, skips, visited}
use Rattle.turns.proofs.advance.Goals as goal

pub cost_at-requires-clause-at_value : goal.cost_at-requires-clause-at_value
cost_at-requires-clause-at_value c = entry_in_use c.requires.machine c.requires.waiting_nonzero c.take_least-key.ensures c.number_of-i.ensures c.slot_of-slot.ensures

pub returns-then-known-cost : goal.returns-then-known-cost
returns-then-known-cost c = skips c.requires.sound c.requires.machine c.requires.waiting_nonzero c.take_least-key.ensures c.number_of-i.ensures c.slot_of-slot.ensures (c.from-known.ensures ∙ c.cost_at.ensures) c.cost_of-cost.ensures c.count_pop-next.ensures c.if-known-cost.true

pub returns : goal.returns
returns c = visited c.requires.sound c.requires.machine c.requires.waiting_nonzero c.take_least-key.ensures c.number_of-i.ensures c.count_pop-next.ensures c.visit.ensures
