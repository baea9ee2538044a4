-- What `read_line` leaves to be shown: the board's refusals, too little room, a text that is no line, and then the line.
use mathlib.Core.Path.{sym, ◌∙◌}
use Rattle.std.proofs.lemmas.Result.{err_from_is_err_and}
use Rattle.board.specs.Record.{shown}
use Rattle.board.proofs.Soundness.{sound}
use Rattle.questions.proofs.Asking.{verdict_fine}
use Rattle.reading.proofs.Handing.{formed_wrong, bad_board, little_room_lem, good_room}
use borrow.Author.Rules.{rules}
use Rattle.reading.proofs.read_line.Goals as goal

pub returns-in_err-inspect : goal.returns-in_err-inspect
returns-in_err-inspect c = let p = err_from_is_err_and c.from_residual.result c.from_residual.ensures.1 in rw (p.1, p.2) (bad_board c.args.b c.args.text.now c.args.list.now c.inspect.ensures c.in_err-inspect.was)

pub returns-then-list-lt-LIST_ROOM : goal.returns-then-list-lt-LIST_ROOM
returns-then-list-lt-LIST_ROOM c =
    rw c.into.ensures
    (little_room_lem c.args.b c.args.text.now c.args.list.now (verdict_fine c.inspect.ensures c.in_ok-inspect.was) c.if-list-lt-LIST_ROOM.true)

pub read_formed-requires-clause-sound : goal.read_formed-requires-clause-sound
read_formed-requires-clause-sound c = sound c.args.b (record { four = search rules; piles = search rules; eight = search rules; full = search rules }) (verdict_fine c.inspect.ensures c.in_ok-inspect.was)

pub returns-in-Ok : goal.returns-in-Ok
returns-in-Ok c = good_room c.args.b c.args.text.now c.args.list.now (verdict_fine c.inspect.ensures c.in_ok-inspect.was) c.if-list-lt-LIST_ROOM.false c.read_formed.ensures

pub returns-in-Err : goal.returns-in-Err
returns-in-Err c = good_room c.args.b c.args.text.now c.args.list.now (verdict_fine c.inspect.ensures c.in_ok-inspect.was) c.if-list-lt-LIST_ROOM.false (formed_wrong (shown c.args.b) c.args.text.now (sym c.check.ensures ∙ c.in-Err.is))
