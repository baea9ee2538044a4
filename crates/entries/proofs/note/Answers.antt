-- What `note` leaves to be shown: each word that the deal raises, and the win.
use Rattle.std.proofs.Common.{rules}
use Rattle.sheets.proofs.Entering.{note_room_1, note_room_2, note_room_3, note_room_4, note_plain, note_won}
use Rattle.entries.proofs.note.Goals as goal

pub raise-requires : goal.raise-requires
raise-requires c = let all = note_room_1 c.requires c.answer_at.result c.answer_at.ensures in record { at_in_bounds = all.0; by_bound = all.1 }

pub raise-requires-2 : goal.raise-requires-2
raise-requires-2 c = let all = note_room_2 c.requires c.answer_at.result c.answer_at.ensures c.raise.ensures in record { at_in_bounds = all.0; by_bound = all.1 }

pub raise-requires-3 : goal.raise-requires-3
raise-requires-3 c = let all = note_room_3 c.requires c.answer_at.result c.answer_at.ensures c.raise.ensures c.raise-2.ensures (search rules) in record { at_in_bounds = all.0; by_bound = all.1 }

pub note_win-requires : goal.note_win-requires
note_win-requires c = let all = note_room_4 c.requires c.answer_at.result c.answer_at.ensures c.raise.ensures c.raise-2.ensures c.raise-3.ensures in record { moves_bound = all.0; moves_bound_2 = all.1.0; small = all.1.1.0; small_2 = all.1.1.1 }

pub returns-then-answer-eq0 : goal.returns-then-answer-eq0
returns-then-answer-eq0 c = note_won c.requires c.answer_at.result c.answer_at.ensures c.raise.ensures c.raise-2.ensures c.raise-3.ensures c.note_win.ensures c.if-answer-eq0.true

pub returns-else-answer-eq0 : goal.returns-else-answer-eq0
returns-else-answer-eq0 c = note_plain c.requires c.answer_at.result c.answer_at.ensures c.raise.ensures c.raise-2.ensures c.raise-3.ensures c.if-answer-eq0.false
