-- What `cell_at` leaves to be shown: empty, or the card.
use borrow.Author.Tests.{eq-eqb, ne_eqb}
use Rattle.board.proofs.Tables.{cell_is_card}
use Rattle.questions.specs.Questions.{cell_of}
use Rattle.questions.proofs.cell_at.Goals as goal

pub returns-then-code : goal.returns-then-code
unfolding cell_of
returns-then-code c = rw (eq-eqb _ 255 c.if-code.true)

pub card_of-requires : goal.card_of-requires
card_of-requires c = cell_is_card _ (c.requires.good_cells.codes c.args.i c.requires.i_bound) c.if-code.false

pub returns : goal.returns
unfolding cell_of
returns c = rw (ne_eqb _ 255 c.if-code.false, c.card_of.ensures)
