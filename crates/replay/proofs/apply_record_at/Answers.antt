-- What `apply_record_at` leaves to be shown: the board is the given one, and the answer the move's.
use mathlib.Core.Path.{sym}
use Rattle.std.proofs.lemmas.Result.{err_from_is_err_and}
use Rattle.replay.proofs.Stepping.{said_yes, said_no}
use Rattle.replay.proofs.apply_record_at.Goals as goal

pub returns-in_err-apply_record_to : goal.returns-in_err-apply_record_to
returns-in_err-apply_record_to c = let p = err_from_is_err_and c.from_residual.result c.from_residual.ensures.1 in rw (p.1, p.2)
    (sym (said_no _ c.apply_record_to.ensures.moves c.in_err-apply_record_to.was).0)

pub returns : goal.returns
returns c = sym (said_yes _ c.apply_record_to.ensures.moves c.in_ok-apply_record_to.was)
