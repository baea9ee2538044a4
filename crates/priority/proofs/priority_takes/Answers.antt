-- What `priority_takes` leaves to be shown: products and their sum.
use Rattle.priority.specs.Priority.{priority_takes}
use Rattle.priority.proofs.priority_takes.Goals as goal

pub returns : goal.returns
unfolding priority_takes
returns c = rw c.base_takes-base.ensures
