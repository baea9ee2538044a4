-- No more are counted than looked at.
use Rattle.std.proofs.Common.{◌≤◌}
use Rattle.oracle_moves.proofs.answers.kept.Given as goal

abbrev pub invariant-loop-i : goal.invariant-loop-i
invariant-loop-i l = l.n ≤ l.i
