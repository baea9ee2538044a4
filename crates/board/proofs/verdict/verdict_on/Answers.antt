-- What `verdict_on` leaves to be shown: codes, then repeats, then missing cards.
use mathlib.Core.Path.{sym, ◌∙◌}
use Rattle.board.proofs.Tables.{good_cells}
use Rattle.board.proofs.Verdicts.{bad_cell, bad_code, seen_twice, seen_all, seen_some}
use Rattle.board.proofs.verdict.verdict_on.Goals as goal

pub returns-then-not-are_cells : goal.returns-then-not-are_cells
returns-then-not-are_cells c = bad_cell _ (sym c.are_cells.ensures ∙ c.if-not-are_cells.true)

pub returns-then-not-columns_are_cards : goal.returns-then-not-columns_are_cards
returns-then-not-columns_are_cards c = bad_code _ (sym c.columns_are_cards.ensures ∙ c.if-not-columns_are_cards.true)

pub mark_table-requires : goal.mark_table-requires
mark_table-requires c = record { good_cells = good_cells c.args.cells.now c.requires.cells_len (sym c.are_cells.ensures ∙ c.if-not-are_cells.false); good_piles = c.requires.good_piles; parts = c.requires.parts; codes_value = (sym c.columns_are_cards.ensures ∙ c.if-not-columns_are_cards.false) }

pub returns-in_default : goal.returns-in_default
returns-in_default c = seen_twice _ (sym c.are_cells.ensures ∙ c.if-not-are_cells.false) (sym c.columns_are_cards.ensures ∙ c.if-not-columns_are_cards.false) c.mark_table.ensures c.in_default.is

pub returns-then-seen-eq52 : goal.returns-then-seen-eq52
returns-then-seen-eq52 c = seen_all _ (sym c.are_cells.ensures ∙ c.if-not-are_cells.false) (sym c.columns_are_cards.ensures ∙ c.if-not-columns_are_cards.false) c.mark_table.ensures c.in-Some.is c.if-seen-eq52.true

pub returns : goal.returns
returns c = seen_some _ (sym c.are_cells.ensures ∙ c.if-not-are_cells.false) (sym c.columns_are_cards.ensures ∙ c.if-not-columns_are_cards.false) c.mark_table.ensures c.in-Some.is c.if-seen-eq52.false
