-- What `write_line_at` leaves to be shown: the first bad move, no sign, no room, the text.
use lib.ListN.{length}
use Rattle.board.specs.declared.Refusal.TheVariants.{NotWritable, LittleRoom}
use Rattle.replay.proofs.Replaying.{line_five}
use Rattle.writing.proofs.Telling.{tells_no, tells_at, tells_text, bad_move_lem, no_sign, no_room_lem, all_told, all_ready}
use Rattle.writing.proofs.write_line_at.Goals as goal

pub play_through-stopped-requires-clause-bytes_len : goal.play_through-stopped-requires-clause-bytes_len
play_through-stopped-requires-clause-bytes_len c = line_five c.args.bytes.now c.requires.bytes_value

pub returns-in-Err : goal.returns-in-Err
returns-in-Err c = tells_at {why = c.in-Err.why} (bad_move_lem c.args.b c.args.bytes.now (length c.args.text.now) c.requires.sound c.requires.bytes_value c.play_through-stopped.ensures c.in-Err.is)

pub returns-in-Some : goal.returns-in-Some
returns-in-Some c = tells_at {why = NotWritable} (no_sign c.args.b c.args.bytes.now (length c.args.text.now) c.requires.sound c.requires.bytes_value c.play_through-stopped.ensures c.in_default.is c.in-Some.ensures)

pub returns-then-text-lt-TEXT_ROOM : goal.returns-then-text-lt-TEXT_ROOM
returns-then-text-lt-TEXT_ROOM c = rw c.into.ensures (tells_no {why = LittleRoom} (no_room_lem c.args.b c.args.bytes.now (length c.args.text.now) c.requires.sound c.requires.bytes_value c.play_through-stopped.ensures c.in_default.is c.in_default-first_unwritable.ensures c.if-text-lt-TEXT_ROOM.true))

pub write_all-requires : goal.write_all-requires
write_all-requires c = all_ready c.args.b c.args.bytes.now (length c.args.text.now) c.requires.sound c.requires.bytes_value c.play_through-stopped.ensures c.in_default.is c.in_default-first_unwritable.ensures c.if-text-lt-TEXT_ROOM.false

pub returns : goal.returns
returns c = tells_text (all_told c.args.b c.args.bytes.now (length c.args.text.now) c.requires.sound c.requires.bytes_value c.play_through-stopped.ensures c.in_default.is c.in_default-first_unwritable.ensures c.if-text-lt-TEXT_ROOM.false) c.write_all.ensures
