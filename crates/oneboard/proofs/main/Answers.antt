-- What is written lies within the room.
use Rattle.std.proofs.Common.{sym, length-take-le}
use Rattle.onetext.proofs.Telling.{tells_within}
use Rattle.oneboard.proofs.main.Goals as goal

pub slice_bounds-out-end : goal.slice_bounds-out-end
slice_bounds-out-end c = tells_within c.judge_image-n.ensures

pub slice_bounds-write_all-end : goal.slice_bounds-write_all-end
slice_bounds-write_all-end c = sym (length-take-le _ _ (tells_within c.judge_image-n.ensures))
