-- What `sense_at` leaves to be shown: kind by kind.
use mathlib.Core.Path.{subst}
use Rattle.board.specs.Record.{shown, laid}
use Rattle.notation.specs.Jot.{WellMade}
use Rattle.sense.proofs.Finding.{some_lies, top_of_lem, means_to_cell, means_from_cell, means_to-home, means_cell_home}
use Rattle.sense.proofs.meant.sense_at.Goals as goal

pub between_at-requires-clause-bound : goal.between_at-requires-clause-bound
between_at-requires-clause-bound c =
    let b = laid c.args.cells.now c.args.foundation.now c.args.counts.now c.args.tableau.now in
    some_lies c.requires.sound _ (subst WellMade c.in-Between.is c.requires.well_made).0 c.args.card (top_of_lem (shown b) c.args.card c.requires.jot_value c.in-Between.is)

pub returns-in-ToCell : goal.returns-in-ToCell
returns-in-ToCell c =
    let b = laid c.args.cells.now c.args.foundation.now c.args.counts.now c.args.tableau.now in
    means_to_cell (shown b) c.args.card c.requires.jot_value c.in-ToCell.is

pub returns-in-ToHome : goal.returns-in-ToHome
returns-in-ToHome c =
    let b = laid c.args.cells.now c.args.foundation.now c.args.counts.now c.args.tableau.now in
    means_to-home (shown b) c.args.card c.requires.jot_value c.in-ToHome.is

pub returns-in-FromCell : goal.returns-in-FromCell
returns-in-FromCell c =
    let b = laid c.args.cells.now c.args.foundation.now c.args.counts.now c.args.tableau.now in
    means_from_cell (shown b) c.args.card c.requires.jot_value c.in-FromCell.is

pub returns-in-CellHome : goal.returns-in-CellHome
returns-in-CellHome c =
    let b = laid c.args.cells.now c.args.foundation.now c.args.counts.now c.args.tableau.now in
    means_cell_home (shown b) c.args.card c.requires.jot_value c.in-CellHome.is
