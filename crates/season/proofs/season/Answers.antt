-- What `season` leaves to be shown: a refusal changes nothing; else the sheet stands at the start of its room, and the parts are cleared.
use mathlib.Core.Path.{sym}
use Rattle.std.proofs.lemmas.Result.{err_from_is_err_and}
use lib.Seq.{length-take-le}
use Rattle.base.proofs.Clearing.{cleared}
use Rattle.solver.proofs.Accepting.{in_numbers, roomy}
use Rattle.season.specs.Season.{lent_of}
use Rattle.season.proofs.Leaving.{leaves_refused, leaves_given}
use Rattle.season.proofs.season.Goals as goal

pub returns-in_err-examine : goal.returns-in_err-examine
returns-in_err-examine c = let p = err_from_is_err_and c.from_residual.result c.from_residual.ensures.1 in rw (p.1, p.2) (leaves_refused (lent_of c.args.nodes.now c.args.heap.now c.args.keys.now c.args.costs.now c.args.sheet.now) c.args.first c.args.last c.args.budget c.args.partial c.capacity_of-capacity.ensures c.examine.ensures c.in_err-examine.was)

pub room_for-room-requires : goal.room_for-room-requires
room_for-room-requires c = in_numbers _ _ _ _ c.capacity_of-capacity.ensures

pub slice_bounds-judge_deals-end : goal.slice_bounds-judge_deals-end
slice_bounds-judge_deals-end c = c.examine.ensures.wide c.in_ok-examine.was

pub slice_bounds-judge_deals-end-2 : goal.slice_bounds-judge_deals-end-2
slice_bounds-judge_deals-end-2 c = sym (length-take-le 716 c.args.sheet.now (c.examine.ensures.wide c.in_ok-examine.was))

pub judge_deals-requires : goal.judge_deals-requires
judge_deals-requires c = record { playable = record { low = c.examine.ensures.low c.in_ok-examine.was; high = c.examine.ensures.high c.in_ok-examine.was; cheap = c.examine.ensures.cheap c.in_ok-examine.was; room = roomy c.capacity_of-capacity.ensures (c.examine.ensures.some c.in_ok-examine.was) c.room_for-room.ensures }; sheet_len = length-take-le 716 c.args.sheet.now (c.examine.ensures.wide c.in_ok-examine.was) }

pub returns : goal.returns
returns c = leaves_given (lent_of c.args.nodes.now c.args.heap.now c.args.keys.now c.args.costs.now c.args.sheet.now) c.args.first c.args.last c.args.budget c.args.partial c.capacity_of-capacity.ensures c.examine.ensures _ _ _ _ c.in_ok-examine.was c.room_for-room.ensures c.judge_deals.ensures c.judge_deals.auto.sheet c.judge_deals.auto.nodes (cleared _ _ c.clear.auto.s c.clear.ensures) c.judge_deals.auto.heap (cleared _ _ c.clear-2.auto.s c.clear-2.ensures) c.judge_deals.auto.keys (cleared _ _ c.clear-3.auto.s c.clear-3.ensures) c.judge_deals.auto.costs (cleared _ _ c.clear-4.auto.s c.clear-4.ensures)
