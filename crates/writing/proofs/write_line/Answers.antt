-- What `write_line` leaves to be shown: the board's refusals, then the list's, then the line.
use mathlib.Core.Path.{sym, ◌∙◌}
use lib.ListN.{length}
use Rattle.board.specs.declared.Refusal.TheVariants.{WrongList}
use Rattle.board.proofs.Soundness.{sound}
use Rattle.questions.proofs.Asking.{verdict_fine}
use Rattle.writing.proofs.Telling.{tells_no, bad_board, no_list_lem}
use Rattle.std.proofs.lemmas.Result.{err_from_is_err_and}
use borrow.Author.Rules.{rules}
use Rattle.writing.proofs.write_line.Goals as goal

pub returns-in_err-inspect : goal.returns-in_err-inspect
returns-in_err-inspect c = let p = err_from_is_err_and c.from_residual.result c.from_residual.ensures.1 in rw (p.1, p.2) (tells_no (bad_board c.args.b c.args.bytes.now (length c.args.text.now) c.inspect.ensures c.in_err-inspect.was))

pub returns-then-not-is_line : goal.returns-then-not-is_line
returns-then-not-is_line c = rw c.into.ensures (tells_no {why = WrongList} (no_list_lem c.args.b c.args.bytes.now (length c.args.text.now) c.inspect.ensures c.in_ok-inspect.was (sym c.is_line.ensures ∙ c.if-not-is_line.true)))

pub write_line_at-requires-clause-sound : goal.write_line_at-requires-clause-sound
write_line_at-requires-clause-sound c = sound c.args.b (record { four = search rules; piles = search rules; eight = search rules; full = search rules }) (verdict_fine c.inspect.ensures c.in_ok-inspect.was)
