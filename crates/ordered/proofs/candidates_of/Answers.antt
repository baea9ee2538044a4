-- What `candidates_of` leaves to be shown: the record's refusals, then the room's.
use mathlib.Core.Path.{refl}
use native.Mathlib.Omega.{arith}
use Rattle.board.proofs.Soundness.{sound}
use Rattle.questions.proofs.Asking.{verdict_fine}
use Rattle.generate.proofs.Answering.{finds_no_board, finds_no_room, finds_all}
use borrow.Author.Rules.{rules}
use Rattle.std.proofs.lemmas.Result.{err_from_is_err_and}
use Rattle.ordered.proofs.candidates_of.Goals as goal

pub returns-in_err-inspect : goal.returns-in_err-inspect
returns-in_err-inspect c = let p = err_from_is_err_and c.from_residual.result c.from_residual.ensures.1 in rw (p.1, p.2) (finds_no_board c.inspect.ensures c.in_err-inspect.was)

pub returns-then-out-lt-RECORD_ROOM : goal.returns-then-out-lt-RECORD_ROOM
returns-then-out-lt-RECORD_ROOM c = finds_no_room c.inspect.ensures c.in_ok-inspect.was refl (omega (arith, c.if-out-lt-RECORD_ROOM.true))

pub candidates_at-made-requires : goal.candidates_at-made-requires
candidates_at-made-requires c = record { sound = sound c.args.b (record { four = search rules; piles = search rules; eight = search rules; full = search rules }) (verdict_fine c.inspect.ensures c.in_ok-inspect.was); tried_room_in_bounds = omega (arith, c.if-out-lt-RECORD_ROOM.false) }

pub returns : goal.returns
returns c = finds_all c.inspect.ensures c.in_ok-inspect.was (omega (arith, c.if-out-lt-RECORD_ROOM.false)) c.candidates_at-made.ensures
