-- What `progress_key` leaves to be shown: the bias is enough for what takes away.
use mathlib.Core.Path.{ap₂}
use Prim.Native.Nat.{ℕ, ◌+◌, ◌-◌}
use Rattle.score.specs.Scores.{progress_key, progress_bias}
use Rattle.score.proofs.scores.progress_key.Goals as goal

pub returns : goal.returns
unfolding progress_key
returns c = ap₂ (λ (a t : ℕ). a + progress_bias - t) c.progress_adds-raised.ensures c.progress_takes.ensures
