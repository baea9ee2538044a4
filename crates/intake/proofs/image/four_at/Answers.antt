-- What `four_at` leaves to be shown: four elements in a row are the part.
use Rattle.intake.proofs.Parts.{take_four}
use Rattle.intake.proofs.image.four_at.Goals as goal

pub returns : goal.returns
returns c = take_four c.args.image.now c.args.at c.requires
