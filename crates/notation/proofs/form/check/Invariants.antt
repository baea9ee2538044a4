-- What `check` leaves to be shown: each sign leads on, ends a move, or is wrong.
use Rattle.notation.proofs.Checking.{Checks}
use Rattle.notation.proofs.form.check.Given as goal

abbrev pub invariant-loop-place : goal.invariant-loop-place
invariant-loop-place l = Checks l.text l.due l.moves l.place
