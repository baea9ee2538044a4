-- What `corbelnib_write_line` leaves to be shown: another length, or what comes of the list.
use mathlib.Core.Path.{ap, ◌∙◌}
use Prim.Native.Nat.{ℕ}
use mathlib.Core.List.{List}
use lib.ListN.{length}
use Rattle.writing.specs.Asked.{write_asked}
use Rattle.crossing.specs.Crossing.{left}
use Rattle.crossing.specs.Papers.{written_by, line_written_left}
use Rattle.crossing.proofs.Papering.{line_yes, line_no, writes_left}
use Rattle.corbelnib.proofs.corbelnib_write_line.Goals as goal

pub returns-in-Ok : goal.returns-in-Ok
unfolding line_written_left
returns-in-Ok c = writes_left c.args.count.now c.line.ensures c.write_line.ensures ∙ ap (λ o. written_by o c.args.text.now c.args.count.now) (line_yes c.lent.result c.args.board.now c.lent.ensures c.in-Ok.is (λ b. write_asked b c.args.list.now (length c.args.text.now)))

pub returns-in-Err : goal.returns-in-Err
unfolding line_written_left
returns-in-Err c = ap (λ (k : ℕ). left {A = List ℕ × ℕ} k (c.args.text.now, c.args.count.now)) c.number.ensures ∙ ap (λ o. written_by o c.args.text.now c.args.count.now) (line_no c.lent.result c.args.board.now c.lent.ensures c.in-Err.is (λ b. write_asked b c.args.list.now (length c.args.text.now)))
