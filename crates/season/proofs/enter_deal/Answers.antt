-- What `enter_deal` leaves to be shown: the board is the number's, and what was found for it is what the deal gives.
use mathlib.Core.Path.{sym, ap, ◌∙◌, subst}
use Rattle.sheets.specs.Over.{Result}
use Rattle.sheets.specs.Noted.{noted}
use Rattle.sheets.specs.Promises.{Enterable}
use Rattle.std.specs.Result.{is_ok}
use Rattle.season.specs.Inner.{settings_of}
use Rattle.season.proofs.Answers.{hand_is, hand_sound, hand-shown, found_result}
use Rattle.season.proofs.Accepting.{number_between}
use borrow.Author.Rules.{rules}
use Rattle.season.proofs.enter_deal.Goals as goal

pub unwrap-b-requires : goal.unwrap-b-requires
unwrap-b-requires c = ap is_ok (hand_is _ c.hand.ensures (number_between _ c.requires.playable.low c.requires.playable.high))

pub judge_at-j-requires : goal.judge_at-j-requires
judge_at-j-requires c = record { sound = hand_sound _ c.hand.ensures (number_between _ c.requires.playable.low c.requires.playable.high) c.unwrap-b.ensures; budget_le_most_pops = c.requires.playable.cheap; roomy = c.requires.playable.room; list_room_in_bounds = search rules }

pub note-requires : goal.note-requires
note-requires c = subst (λ (x : Result). Enterable c.args.sheet.now c.args.n x) (sym (found_result (settings_of c.args.budget c.args.room.capacity c.args.partial) c.args.n _ (hand-shown _ c.hand.ensures (number_between _ c.requires.playable.low c.requires.playable.high) c.unwrap-b.ensures) c.judge_at-j.ensures c.number.ensures)) c.requires.enterable

pub returns : goal.returns
returns c = c.note.ensures ∙ ap (noted c.args.sheet.now c.args.n) (found_result (settings_of c.args.budget c.args.room.capacity c.args.partial) c.args.n _ (hand-shown _ c.hand.ensures (number_between _ c.requires.playable.low c.requires.playable.high) c.unwrap-b.ensures) c.judge_at-j.ensures c.number.ensures)
