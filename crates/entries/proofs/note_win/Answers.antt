-- What `note_win` leaves to be shown: its length, and both marks.
use mathlib.Core.Path.{sym, ap, ◌∙◌, subst}
use mathlib.Core.List.{List}
use Prim.Native.Nat.{ℕ}
use Rattle.sheets.specs.declared.Side.TheVariants.{Longest as longest}
use Rattle.sheets.specs.Promises.{Small, mark_entered, WinNoted}
use Rattle.sheets.proofs.Entering.{win_small_1, win_small_2, win_noted}
use Rattle.entries.proofs.note_win.Goals as goal

pub note_mark-requires-clause-small : goal.note_mark-requires-clause-small
note_mark-requires-clause-small c = win_small_1 c.args.moves c.args.n c.requires.moves_bound.0 c.requires.small c.requires.small_2 c.raise.ensures

pub note_mark-requires-2-clause-small : goal.note_mark-requires-2-clause-small
note_mark-requires-2-clause-small c = subst (Small longest) (sym c.note_mark.ensures) (win_small_2 c.args.moves c.args.n c.requires.moves_bound.0 c.requires.small c.requires.small_2 c.raise.ensures)

pub returns : goal.returns
returns c = subst (WinNoted c.args.sheet.now c.args.moves c.args.n) (sym (c.note_mark-2.ensures ∙ ap (λ (l : List ℕ). mark_entered longest l c.args.moves c.args.n) c.note_mark.ensures)) (win_noted c.args.moves c.args.n c.requires.moves_bound.0 c.requires.small c.requires.small_2 c.raise.ensures)
