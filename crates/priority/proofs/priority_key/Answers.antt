-- What `priority_key` leaves to be shown: the bias is enough for what takes away.
use mathlib.Core.Path.{ap₂}
use Prim.Native.Nat.{ℕ, ◌+◌, ◌-◌}
use native.Mathlib.Omega.{arith}
use Rattle.priority.specs.Priority.{priority_key, priority_bias}
use Rattle.priority.proofs.Sizes.{priority_adds_most, priority-takes_most}
use Rattle.priority.proofs.priority_key.Goals as goal

pub overflow_add-raised : goal.overflow_add-raised
overflow_add-raised c = omega (arith, c.priority_adds-raised.ensures, priority_adds_most c.args.way c.args.before c.args.after c.requires.bounded c.requires.bounded_2)

pub overflow_sub-result : goal.overflow_sub-result
overflow_sub-result c = omega (arith, c.priority_takes.ensures, priority-takes_most c.args.way c.args.before c.args.after c.requires.bounded c.requires.bounded_2)

pub returns : goal.returns
unfolding priority_key
returns c = ap₂ (λ (a t : ℕ). a + priority_bias - t) c.priority_adds-raised.ensures c.priority_takes.ensures
