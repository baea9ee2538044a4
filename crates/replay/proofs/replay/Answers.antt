-- What `replay` leaves to be shown: the board's refusals, then the list's, then the line.
use mathlib.Core.Path.{sym, subst, ◌∙◌}
use Rattle.board.specs.declared.Refusal.TheVariants.{WrongList}
use Rattle.board.proofs.Soundness.{sound}
use Rattle.questions.proofs.Asking.{verdict_fine}
use Rattle.replay.specs.Line.{Ending}
use Rattle.replay.specs.Handed.{Ends}
use Rattle.replay.proofs.Lining.{ends_no}
use Rattle.replay.proofs.Replaying.{line_five, bad_board, no_line, good_line}
use borrow.Author.Rules.{rules}
use Rattle.replay.proofs.replay.Goals as goal

pub returns-in-Err : goal.returns-in-Err
returns-in-Err c =
    let start = c.args in
    ends_no (bad_board start.b start.bytes.now c.inspect.ensures c.in-Err.is)

pub replay_at-requires : goal.replay_at-requires
replay_at-requires c =
    let start = c.args in
    let fine = verdict_fine c.inspect.ensures c.in_default.is in record { sound = sound start.b (record { four = search rules; piles = search rules; eight = search rules; full = search rules }) fine; bytes_len = line_five start.bytes.now (sym c.is_line.ensures ∙ c.if-is_line.true) }

pub returns-then-is_line : goal.returns-then-is_line
returns-then-is_line c =
    let start = c.args in
    let line = sym c.is_line.ensures ∙ c.if-is_line.true in
    subst (λ (e : Ending). Ends e c.replay_at.result) (sym (good_line start.b start.bytes.now c.inspect.ensures c.in_default.is line)) c.replay_at.ensures

pub returns : goal.returns
returns c =
    let start = c.args in
    let line = sym c.is_line.ensures ∙ c.if-is_line.false in
    ends_no {why = WrongList} (no_line start.b start.bytes.now c.inspect.ensures c.in_default.is line)
