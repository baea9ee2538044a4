-- What `meant_at` leaves to be shown: a column to itself, an empty source, and then the move itself.
use mathlib.Core.Path.{sym, ◌∙◌}
use Rattle.board.specs.Record.{shown, laid}
use Rattle.sense.proofs.Finding.{meant_own, meant_bare, meant-there}
use Rattle.sense.proofs.meant.meant_at.Goals as goal

pub returns-then-not-goes_away : goal.returns-then-not-goes_away
returns-then-not-goes_away c = let b = laid c.args.cells.now c.args.foundation.now c.args.counts.now c.args.tableau.now in
    meant_own (shown b) c.args.jot (sym c.goes_away.ensures ∙ c.if-not-goes_away.true)

pub returns-in_default : goal.returns-in_default
returns-in_default c = let b = laid c.args.cells.now c.args.foundation.now c.args.counts.now c.args.tableau.now in
    meant_bare (shown b) c.args.jot (sym c.goes_away.ensures ∙ c.if-not-goes_away.false) (sym c.top_there.ensures ∙ c.in_default.is)

pub sense_at-requires : goal.sense_at-requires
sense_at-requires c = record { sound = c.requires.sound; well_made = c.requires.well_made; jot_value = sym c.top_there.ensures ∙ c.in-Some.is }

pub returns : goal.returns
returns c = let b = laid c.args.cells.now c.args.foundation.now c.args.counts.now c.args.tableau.now in
    c.sense_at.ensures ∙ meant-there (shown b) c.args.jot (sym c.goes_away.ensures ∙ c.if-not-goes_away.false) (sym c.top_there.ensures ∙ c.in-Some.is)
