-- What `put_there` leaves to be shown: a column, a cell, a foundation takes the card, or why not.
use Rattle.play.proofs.Tops.{in_column, in_cell}
use Rattle.play.proofs.Landing.{lands_column, lands_cell, lands_home}
use Rattle.board.specs.Record.{laid}
use Rattle.play.proofs.rule.put_there.Goals as goal

pub fit_at-requires : goal.fit_at-requires
fit_at-requires c = record { good_columns = c.requires.sound.in_columns; i_bound = in_column c.requires.place_value c.in-Column.is; code_value = c.requires.code_value }

pub bounds-cells-i : goal.bounds-cells-i
bounds-cells-i c = in_cell c.requires.place_value c.in-Cell.is

pub returns-in-Column : goal.returns-in-Column
returns-in-Column c = let b = laid c.args.cells.now c.args.foundation.now c.args.counts.now c.args.tableau.now in
    lands_column b c.args.code _ c.in-Column.is (in_column c.requires.place_value c.in-Column.is) c.fit_at.ensures c.ruled.ensures

pub returns-in-Cell : goal.returns-in-Cell
returns-in-Cell c = let b = laid c.args.cells.now c.args.foundation.now c.args.counts.now c.args.tableau.now in
    lands_cell b c.args.code _ c.in-Cell.is c.ruled-in-Cell.ensures

pub returns-in-Home : goal.returns-in-Home
returns-in-Home c = let b = laid c.args.cells.now c.args.foundation.now c.args.counts.now c.args.tableau.now in
    lands_home b c.args.code _ c.in-Home.is c.home_takes.ensures c.ruled-in-Home.ensures
