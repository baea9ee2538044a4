-- What `priority_at` leaves to be shown: the move's refusals, or its priority.
use Rattle.board.specs.Refusal.{answered}
use mathlib.Core.Path.{sym, ap, ◌∙◌}
use lib.IntN.{ℤ}
use Rattle.base.specs.Answer.{given}
use Rattle.board.specs.Record.{shown, laid}
use Rattle.moves.specs.Record.{sayable_told}
use Rattle.moves.proofs.Ruling.{fine-allowed}
use Rattle.play.specs.Change.{Ready}
use Rattle.score.proofs.Signs.{passed_on}
use Rattle.priority.proofs.Asking.{asked_none, asked_move}
use Rattle.priority.proofs.After.{priority_fits}
use Rattle.std.proofs.lemmas.Result.{err_from_is_err_and}
use Rattle.priority.proofs.priority_at.Goals as goal

pub returns-in_default : goal.returns-in_default
returns-in_default c = let b = laid c.args.cells.now c.args.foundation.now c.args.counts.now c.args.tableau.now in
    sym (asked_none (shown b) c.args.bytes.now c.decode.ensures.result_value c.in_default.is)

pub ruled_at-requires : goal.ruled_at-requires
ruled_at-requires c = record { sound = c.requires; m_value = ap sayable_told (sym c.in-Some.is) ∙ c.decode.ensures.result_value_2 }

pub returns-in_err-ruled_at : goal.returns-in_err-ruled_at
returns-in_err-ruled_at c = let b = laid c.args.cells.now c.args.foundation.now c.args.counts.now c.args.tableau.now in
    let p = err_from_is_err_and c.from_residual.result c.from_residual.ensures.1 in rw (p.1, p.2)
    (sym (asked_move (shown b) c.args.bytes.now c.decode.ensures.result_value c.in-Some.m c.in-Some.is (sym c.ruled_at.ensures ∙ ap answered c.in_err-ruled_at.was)))

pub local_priority-requires : goal.local_priority-requires
local_priority-requires c = let b = laid c.args.cells.now c.args.foundation.now c.args.counts.now c.args.tableau.now in
    record { sound = c.requires; said = ap sayable_told (sym c.in-Some.is) ∙ c.decode.ensures.result_value_2; allows = fine-allowed (shown b) c.in-Some.m (sym c.ruled_at.ensures ∙ ap answered c.in_ok-ruled_at.was) }

pub returns : goal.returns
returns c = let b = laid c.args.cells.now c.args.foundation.now c.args.counts.now c.args.tableau.now in
    let fine = sym c.ruled_at.ensures ∙ ap answered c.in_ok-ruled_at.was in
    let ready : Ready b c.in-Some.m = record { sound = c.requires; said = ap sayable_told (sym c.in-Some.is) ∙ c.decode.ensures.result_value_2; allows = fine-allowed (shown b) c.in-Some.m fine } in
    ap (λ (z : ℤ). given z) (passed_on (priority_fits ready) c.local_priority.ensures) ∙ sym (asked_move (shown b) c.args.bytes.now c.decode.ensures.result_value c.in-Some.m c.in-Some.is fine)
