-- What `first_slot` leaves to be shown: an empty table has an entry free for any key.
use Rattle.children.proofs.Choices.{empty_table, only_free, never_full}
use Rattle.turns.proofs.first_slot.Goals as goal

pub find-requires : goal.find-requires
find-requires c = empty_table c.requires

pub returns-in-At : goal.returns-in-At
returns-in-At c = only_free c.requires c.find.ensures c.in-At.is

pub returns-in-At-2 : goal.returns-in-At-2
returns-in-At-2 c = only_free c.requires c.find.ensures c.in-At.is

pub returns-in-Full : goal.returns-in-Full
returns-in-Full c = absurd (never_full c.requires c.find.ensures c.in-Full.is)
