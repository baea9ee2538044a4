-- What `adds_up` leaves to be shown: what is left of the total after the first words.
use lib.ListN.{length, get_or}
use Rattle.sheets.proofs.Loops.{Taken}
use Rattle.audit.proofs.adds_up.Given as goal

abbrev pub invariant-loop-word : goal.invariant-loop-word
invariant-loop-word l = Taken (λ k. get_or l.words k 0) (length l.words) l.total l.left l.word-index
