-- What `put_move` leaves to be shown: the space, then the move.
use mathlib.Core.Path.{sym, subst}
use Rattle.board.specs.Record.{shown, laid}
use Rattle.board.proofs.Fair.{shows_fair}
use Rattle.notation.specs.Jot.{WellMade}
use Rattle.sense.specs.Meant.{jot_of}
use Rattle.sense.proofs.Well.{jot_well}
use Rattle.writing.proofs.Writing.{gap-room, jot_room, jot_next}
use Rattle.writing.proofs.put_move.Goals as goal

pub put_gap-start-requires : goal.put_gap-start-requires
put_gap-start-requires c = let b = laid c.args.cells.now c.args.foundation.now c.args.counts.now c.args.tableau.now in
    gap-room c.args.at (jot_of (shown b) c.args.m) c.requires.m_in_bounds

pub put_jot-requires : goal.put_jot-requires
put_jot-requires c = let b = laid c.args.cells.now c.args.foundation.now c.args.counts.now c.args.tableau.now in
    record { well_made = subst WellMade (sym c.jot_at-jot.ensures) (jot_well (shown b) c.args.m (shows_fair c.requires.sound) c.requires.m_value); jot_in_bounds = jot_room c.args.at (jot_of (shown b) c.args.m) c.requires.m_in_bounds c.put_gap-start.ensures c.jot_at-jot.ensures }

pub returns : goal.returns
returns c = let b = laid c.args.cells.now c.args.foundation.now c.args.counts.now c.args.tableau.now in
    jot_next c.args.at (jot_of (shown b) c.args.m) c.requires.m_in_bounds c.put_gap-start.ensures c.jot_at-jot.ensures c.put_jot.ensures
