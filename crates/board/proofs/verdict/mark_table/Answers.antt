-- What `mark_table` leaves to be shown: piles, then cells, then columns.
use lib.Dec.{lit<}
use Rattle.board.specs.Table.{cards_on}
use Rattle.board.proofs.Marks.{marks_more, marks_twice, marks_as}
use Rattle.board.proofs.verdict.mark_table.Goals as goal

pub mark_piles-requires : goal.mark_piles-requires
mark_piles-requires c = record { seen_bound = lit< tt; good_piles = c.requires.good_piles }

pub returns-in_err-piled : goal.returns-in_err-piled
unfolding cards_on
returns-in_err-piled c = rw c.from_residual.ensures (marks_twice (marks_as c.mark_piles.ensures c.in_err-piled.was) _)

pub mark_cells-requires : goal.mark_cells-requires
mark_cells-requires c = record { seen_bound = (marks_as c.mark_piles.ensures c.in_ok-piled.was).below; good_cells = c.requires.good_cells }

pub returns-in_err-held : goal.returns-in_err-held
unfolding cards_on
returns-in_err-held c = rw c.from_residual-in_err-held.ensures (marks_more (marks_as c.mark_piles.ensures c.in_ok-piled.was) (marks_twice (marks_as c.mark_cells.ensures c.in_err-held.was) _))

pub mark_columns-requires : goal.mark_columns-requires
mark_columns-requires c = record { seen_bound = (marks_as c.mark_cells.ensures c.in_ok-held.was).below; parts = c.requires.parts; codes_value = c.requires.codes_value }

pub returns : goal.returns
unfolding cards_on
returns c =
    marks_more (marks_as c.mark_piles.ensures c.in_ok-piled.was) (marks_more (marks_as c.mark_cells.ensures c.in_ok-held.was) c.mark_columns.ensures)
