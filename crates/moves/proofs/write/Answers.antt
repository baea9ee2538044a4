-- What `write` leaves to be shown: five bytes are one record.
use mathlib.Core.Path.{◌∙◌}
use Rattle.moves.proofs.Writing.{adds_one}
use Rattle.moves.proofs.write.Goals as goal

pub returns : goal.returns
returns c = adds_one c.args.out.now c.args.n (c.copy_from_slice.ensures.after ∙ c.encode.ensures)
