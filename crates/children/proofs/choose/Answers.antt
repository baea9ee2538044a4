-- What `choose` leaves to be shown: what is known of the key.
use Rattle.costs.proofs.Counting.{used-room}
use Rattle.children.proofs.Choices.{held-within, held_is_used, enters}
use Rattle.children.proofs.choose.Goals as goal

pub cost_at-requires-clause-at_in_bounds : goal.cost_at-requires-clause-at_in_bounds
cost_at-requires-clause-at_in_bounds c = held-within c.find.ensures _ c.in-At.is c.requires.table

pub cost_at-requires-clause-at_value : goal.cost_at-requires-clause-at_value
cost_at-requires-clause-at_value c = held_is_used c.find.ensures _ c.in-At.is

pub returns-in-Full : goal.returns-in-Full
returns-in-Full c = absurd (used-room c.requires.entries_bound c.find.ensures c.in-Full.is)

pub returns-in-Free : goal.returns-in-Free
returns-in-Free c = enters c.find.ensures _ _ c.in-Free.is
