-- What `add_words` leaves to be shown: the words before i are added.
use Rattle.sheets.specs.Promises.{Summed}
use Rattle.totals.proofs.add_words.Given as goal

abbrev pub invariant-loop-i : goal.invariant-loop-i
invariant-loop-i l = Summed l.initial.into l.other l.from l.i l.into
