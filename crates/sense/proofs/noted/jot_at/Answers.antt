-- What `jot_at` leaves to be shown: cards from column to column.
use mathlib.Core.Path.{sym, ap, ◌∙◌}
use Rattle.board.specs.Record.{shown, laid}
use Rattle.sense.specs.Meant.{jot_of}
use Rattle.sense.proofs.Noting.{run_places}
use Rattle.sense.proofs.noted.jot_at.Goals as goal

pub run_jot-requires-clause-source_bound : goal.run_jot-requires-clause-source_bound
run_jot-requires-clause-source_bound c = (run_places c.in-TableauToTableau.is c.requires.m_value).0

pub run_jot-requires-clause-destination_bound : goal.run_jot-requires-clause-destination_bound
run_jot-requires-clause-destination_bound c = (run_places c.in-TableauToTableau.is c.requires.m_value).1

pub returns-in-TableauToTableau : goal.returns-in-TableauToTableau
returns-in-TableauToTableau c =
    let b = laid c.args.cells.now c.args.foundation.now c.args.counts.now c.args.tableau.now in
    c.run_jot.ensures c.in-TableauToTableau.card ∙ ap (jot_of (shown b)) (sym c.in-TableauToTableau.is)
