-- What `make` leaves to be shown: the first cause against the move, or it is written and played.
use Rattle.board.specs.Refusal.{answered}
use mathlib.Core.Path.{sym, ap, ◌∙◌}
use Rattle.board.specs.Record.{shown, laid}
use Rattle.moves.proofs.Ruling.{fine-allowed}
use Rattle.reading.proofs.Taking.{make_yes}
use Rattle.reading.proofs.make.Goals as goal

pub apply_to-requires : goal.apply_to-requires
apply_to-requires c =
    let b = laid c.args.cells.now c.args.foundation.now c.args.counts.now c.args.tableau.now in
    record { sound = c.requires.sound; said = c.requires.m_value; allows = fine-allowed (shown b) c.args.m (sym c.ruled_at.ensures ∙ ap answered c.in_ok-ruled_at.was) }

pub returns : goal.returns
returns c = record { told = make_yes c.requires.sound c.args.m c.requires.m_value (sym c.ruled_at.ensures ∙ ap answered c.in_ok-ruled_at.was) c.apply_to.ensures c.write.ensures }
