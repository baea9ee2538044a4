-- The run grows by one card from below until one does not follow.
use mathlib.Core.Path.{◌≡◌}
use mathlib.Core.Bool.{true}
use Prim.Native.Nat.{◌-◌, ◌<◌}
use lib.ListN.{length, drop}
use Rattle.runs.specs.Run.{is_run}
use Rattle.rules.proofs.run_at.Given as goal

abbrev pub invariant-loop-run : goal.invariant-loop-run
invariant-loop-run l = 0 < length l.cards → is_run (drop (length l.cards - l.run) l.cards) ≡ true
