-- What `heuristic_key` leaves to be shown: the bias is enough for what takes away.
use mathlib.Core.Path.{ap₂}
use Prim.Native.Nat.{ℕ, ◌+◌, ◌-◌}
use Rattle.score.specs.Scores.{heuristic_key, heuristic_bias}
use Rattle.score.proofs.scores.heuristic_key.Goals as goal

pub returns : goal.returns
unfolding heuristic_key
returns c = ap₂ (λ (a t : ℕ). a + heuristic_bias - t) c.heuristic_adds-raised.ensures c.heuristic_takes.ensures
