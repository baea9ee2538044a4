-- What is written lies within the room.
use Rattle.std.proofs.Common.{sym, length-take-le}
use Rattle.onetext.proofs.Telling.{tells_within}
use Rattle.texts.proofs.text.Goals as goal

pub slice_bounds-out-end : goal.slice_bounds-out-end
slice_bounds-out-end g c = tells_within c.judge_image-m.ensures

pub slice_bounds-write_all-end : goal.slice_bounds-write_all-end
slice_bounds-write_all-end g c = sym (length-take-le _ _ (tells_within c.judge_image-m.ensures))
