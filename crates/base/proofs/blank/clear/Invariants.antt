-- What `clear` keeps: the places that were passed hold 0.
use Rattle.std.proofs.Common.{ℕ, ◌<◌, get_or}
use Rattle.base.proofs.blank.clear.Given as goal

abbrev pub invariant-loop-word : goal.invariant-loop-word
invariant-loop-word g l = (k : ℕ) (d : g.row.T.Denot) → k < l.word → g.T.Default.is_default (get_or l.s k d)
