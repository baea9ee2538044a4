-- What `priority_adds` leaves to be shown: products and their sum.
use Rattle.priority.specs.Priority.{priority_adds}
use Rattle.priority.proofs.priority_adds.Goals as goal

pub returns : goal.returns
unfolding priority_adds
returns c = rw c.base_adds-base.ensures
