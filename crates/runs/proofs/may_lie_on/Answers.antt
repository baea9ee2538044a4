-- What `may_lie_on` leaves to be shown: values first, then colours.
use borrow.Author.Tests.{ne_eqb}
use Rattle.runs.specs.Follows.{follows}
use Rattle.runs.proofs.Lying.{lies}
use Rattle.runs.proofs.may_lie_on.Goals as goal

pub returns-then-upper-one_more : goal.returns-then-upper-one_more
unfolding follows
returns-then-upper-one_more c = rw (ne_eqb _ _ c.if-upper-one_more.true)

pub returns : goal.returns
returns c = lies c.args.upper c.args.lower c.if-upper-one_more.false c.is_red.ensures c.is_red-2.ensures
