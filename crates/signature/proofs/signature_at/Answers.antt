-- What `signature_at` leaves to be shown: the hashes are those of the columns shown.
use Rattle.std.proofs.Common.{ap, ◌∙◌}
use Rattle.board.specs.Record.{shown}
use Rattle.signature.specs.Signed.{signed, signature_of}
use Rattle.signature.proofs.signature_at.Goals as goal

pub returns : goal.returns
unfolding signature_of shown
returns c =
    c.sign.ensures
    ∙ ap (signed c.args.foundation.now c.args.cells.now) c.hashes_at-hashes.ensures
