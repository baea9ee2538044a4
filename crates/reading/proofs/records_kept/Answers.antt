-- What `records_kept` leaves to be shown: case by case.
use mathlib.Core.Path.{sym, ap}
use Rattle.reading.specs.Inner.{kept}
use Rattle.reading.proofs.records_kept.Goals as goal

pub returns-in-Ok : goal.returns-in-Ok
returns-in-Ok c = sym (ap kept c.in-Ok.is)
