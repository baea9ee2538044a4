-- What `solve` leaves to be shown: a refusal changes nothing, an accepted search leaves its answer and cleared parts.
use Rattle.std.proofs.lemmas.Result.{err_from_is_err_and}
use mathlib.Core.Path.{sym, ap, ◌∙◌}
use Rattle.board.specs.Refusal.{answered}
use Rattle.base.proofs.Clearing.{cleared}
use Rattle.solver.proofs.Accepting.{in_numbers, roomy, outcome_refused, outcome_given, told_here}
use Rattle.solver.proofs.solve.Goals as goal

pub returns-in_err-examine : goal.returns-in_err-examine
returns-in_err-examine c =
    let p = err_from_is_err_and c.from_residual.result c.from_residual.ensures.1 in
    rw (p.1, p.2) (outcome_refused _ _ _ _ _ _ _ _ _ (ap answered (sym c.in_err-examine.was) ∙ told_here c.examine.ensures c.capacity_of-capacity.ensures))

pub room_for-room-requires : goal.room_for-room-requires
room_for-room-requires c = in_numbers _ _ _ _ c.capacity_of-capacity.ensures

pub judge_at-judged-requires : goal.judge_at-judged-requires
judge_at-judged-requires c = record { sound = c.examine.ensures.sound c.in_ok-examine.was; budget_le_most_pops = c.examine.ensures.affordable c.in_ok-examine.was; roomy = roomy c.capacity_of-capacity.ensures (c.examine.ensures.some c.in_ok-examine.was) c.room_for-room.ensures; list_room_in_bounds = c.examine.ensures.listed c.in_ok-examine.was }

pub returns : goal.returns
returns c =
    let examined = c.examine.ensures in
    let counted = c.capacity_of-capacity.ensures in
    outcome_given _ _ _ _ _ _ _ _ _ _ _ _ (sym (told_here examined counted) ∙ ap answered c.in_ok-examine.was) counted c.room_for-room.ensures c.judge_at-judged.ensures
    c.judge_at-judged.auto.nodes (cleared _ _ c.clear.auto.s c.clear.ensures)
    c.judge_at-judged.auto.heap (cleared _ _ c.clear-2.auto.s c.clear-2.ensures)
    c.judge_at-judged.auto.keys (cleared _ _ c.clear-3.auto.s c.clear-3.ensures)
    c.judge_at-judged.auto.costs (cleared _ _ c.clear-4.auto.s c.clear-4.ensures)
