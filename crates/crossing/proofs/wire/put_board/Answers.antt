-- What `put_board` leaves to be shown: four parts, one after the other.
use Rattle.crossing.proofs.Wiring.{board_put}
use borrow.Author.Rules.{rules}
use Rattle.crossing.proofs.wire.put_board.Goals as goal

pub returns : goal.returns
returns c =
    board_put c.args.b (record { four = search rules; piles = search rules; eight = search rules; full = search rules }) c.args.room.now
    c.copy_from_slice.ensures.after c.copy_from_slice-2.ensures.after c.copy_from_slice-3.ensures.after c.copy_from_slice-4.ensures.after
