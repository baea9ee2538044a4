-- What `corbelnib_read_line` leaves to be shown: another length, or what comes of the line.
use mathlib.Core.Path.{ap, ◌∙◌}
use Prim.Native.Nat.{ℕ}
use mathlib.Core.List.{List}
use lib.ListN.{length}
use Rattle.reading.specs.Asked.{read_asked}
use Rattle.crossing.specs.Crossing.{left}
use Rattle.crossing.specs.Papers.{read_by, line_read_left}
use Rattle.crossing.proofs.Papering.{line_yes, line_no, reads_left}
use Rattle.corbelnib.proofs.corbelnib_read_line.Goals as goal

pub returns-in-Ok : goal.returns-in-Ok
unfolding line_read_left
returns-in-Ok c = reads_left c.args.count.now c.line.ensures c.read_line.ensures ∙ ap (λ o. read_by o c.args.list.now c.args.count.now) (line_yes c.lent.result c.args.board.now c.lent.ensures c.in-Ok.is (λ b. read_asked b c.args.text.now (length c.args.list.now)))

pub returns-in-Err : goal.returns-in-Err
unfolding line_read_left
returns-in-Err c = ap (λ (k : ℕ). left {A = List ℕ × ℕ} k (c.args.list.now, c.args.count.now)) c.number.ensures ∙ ap (λ o. read_by o c.args.list.now c.args.count.now) (line_no c.lent.result c.args.board.now c.lent.ensures c.in-Err.is (λ b. read_asked b c.args.text.now (length c.args.list.now)))
