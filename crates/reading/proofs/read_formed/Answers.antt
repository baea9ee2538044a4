-- What `read_formed` leaves to be shown: 31, or what the moves give.
use Rattle.board.specs.Record.{shown}
use Rattle.reading.proofs.Handing.{formed_many}
use Rattle.reading.proofs.read_formed.Goals as goal

pub returns-then-n-gt-MOST_MOVES : goal.returns-then-n-gt-MOST_MOVES
returns-then-n-gt-MOST_MOVES c = rw c.into.ensures (formed_many (shown c.args.b) c.args.text.now c.requires.text_value c.if-n-gt-MOST_MOVES.true)
