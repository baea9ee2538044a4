-- What `apply_record_to` leaves to be shown: the record's move is made, or the record is impossible.
use mathlib.Core.Path.{sym, ap, ◌∙◌}
use Rattle.board.specs.Record.{laid}
use Rattle.board.specs.declared.Refusal.TheVariants.{OutOfRange}
use Rattle.moves.specs.Record.{sayable_told}
use Rattle.replay.proofs.Stepping.{moves_no, moves_as, step_said, step_none}
use Rattle.replay.proofs.apply_record_to.Goals as goal

pub make-requires : goal.make-requires
make-requires c = record { sound = c.requires; m_value = ap sayable_told (sym c.in-Some.is) ∙ c.decode.ensures.result_value_2 }

pub returns-in-Some : goal.returns-in-Some
returns-in-Some c = let b = laid c.args.cells.now c.args.foundation.now c.args.counts.now c.args.tableau.now in
    record { moves = moves_as (step_said b c.in-Some.m c.args.bytes.now c.decode.ensures.result_value c.in-Some.is) c.make.ensures.moves; sound = c.make.ensures.sound_2 }

pub returns-in-None : goal.returns-in-None
returns-in-None c = let b = laid c.args.cells.now c.args.foundation.now c.args.counts.now c.args.tableau.now in
    let b = laid c.args.cells.now c.args.foundation.now c.args.counts.now c.args.tableau.now in
    record { moves = moves_no {why = OutOfRange} (step_none b c.args.bytes.now c.decode.ensures.result_value c.in-None.is); sound = c.requires }
