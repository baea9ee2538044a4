-- What `top_there` leaves to be shown: the last card of a column, a cell, a foundation.
use Rattle.play.proofs.Tops.{top_column, top_cell, top_home, in_column, in_cell, in_home}
use Rattle.play.proofs.rule.top_there.Goals as goal

pub top_at-requires : goal.top_at-requires
top_at-requires c = record { good_columns = c.requires.sound.in_columns; i_bound = in_column c.requires.place_value c.in-Column.is }

pub cell_at-requires : goal.cell_at-requires
cell_at-requires c = record { good_cells = c.requires.sound.in_cells; i_bound = in_cell c.requires.place_value c.in-Cell.is }

pub home_at-requires : goal.home_at-requires
home_at-requires c = record { good_piles = c.requires.sound.in_piles; i_bound = in_home c.requires.place_value c.in-Home.is }

pub returns-in-Column : goal.returns-in-Column
returns-in-Column c = top_column c.requires.sound _ c.in-Column.is (in_column c.requires.place_value c.in-Column.is) c.top_at.ensures

pub returns-in-Cell : goal.returns-in-Cell
returns-in-Cell c = top_cell c.requires.sound _ c.in-Cell.is c.cell_at.ensures

pub returns-in-Home : goal.returns-in-Home
returns-in-Home c = top_home c.requires.sound _ c.in-Home.is c.home_at.ensures
