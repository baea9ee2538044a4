-- What `start` leaves to be shown: cleared, then the settings.
use Rattle.base.proofs.Clearing.{cleared}
use Rattle.base.proofs.Clearing.{cleared}
use Rattle.sheets.proofs.Entering.{started}
use native.Mathlib.Omega.{arith}
use Rattle.sheets.proofs.Entering.{started}
use Rattle.entries.proofs.start.Goals as goal

pub returns : goal.returns
returns c = started (record { budget = c.args.budget; capacity = c.args.capacity; partial = c.args.partial }) _ _ _ c.requires (cleared _ _ c.clear.auto.s c.clear.ensures) (grind arith)
