-- What `count_deals` keeps: the deals before i are counted.
use Rattle.sheets.proofs.Loops.{Counted}
use Rattle.audit.proofs.count_deals.Given as goal

abbrev pub invariant-loop-i : goal.invariant-loop-i
invariant-loop-i l = Counted l.sheet l.count l.i
