-- What `blocked_in` leaves to be shown: what is counted, and what the cards ahead still add.
use mathlib.Core.Path.{◌≡◌}
use Prim.Native.Nat.{◌+◌, ◌*◌, ◌≤◌}
use lib.ListN.{drop}
use Rattle.board.specs.Record.{room}
use Rattle.features.specs.Features.{blocked_in}
use Rattle.features.proofs.blocked_in.Given as goal

abbrev pub invariant-loop-k : goal.invariant-loop-k
invariant-loop-k l = (l.n ≤ room * l.k) × (l.n + blocked_in (drop l.k l.column) ≡ blocked_in l.column)
