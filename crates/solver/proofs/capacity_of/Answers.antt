-- What `capacity_of` leaves to be shown: the least of five numbers.
use mathlib.Core.Path.{ap, ◌∙◌}
use Prim.Native.Nat.{min, ◌/◌}
use Rattle.solver.specs.Capacity.{capacity_of}
use Rattle.solver.proofs.capacity_of.Goals as goal

pub returns : goal.returns
unfolding capacity_of
returns c = c.min-3.ensures ∙ ap (min (c.args.nodes / 3)) (c.min-2.ensures ∙ ap (min c.args.heap) (c.min-entries.ensures ∙ ap (min (c.args.keys / 2)) c.min.ensures))
