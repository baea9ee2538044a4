-- What `is_line` leaves to be shown: too long, or by what is left over.
use borrow.Author.Tests.{le-leb, lt-leb}
use lib.ListN.{length}
use Rattle.replay.specs.Line.{is_line}
use Rattle.replay.proofs.is_line.Goals as goal

pub returns-then-n-gt-LIST_ROOM : goal.returns-then-n-gt-LIST_ROOM
unfolding is_line
returns-then-n-gt-LIST_ROOM c = rw (lt-leb (length c.args.list.now) 1000 c.if-n-gt-LIST_ROOM.true)

pub returns : goal.returns
unfolding is_line
returns c = rw (le-leb (length c.args.list.now) 1000 c.if-n-gt-LIST_ROOM.false)
