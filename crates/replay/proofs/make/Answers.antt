-- What `make` leaves to be shown: the first cause against the move, or it is played.
use Rattle.board.specs.Refusal.{answered}
use mathlib.Core.Path.{sym, ap, ◌∙◌, subst}
use Rattle.base.specs.Answer.{given}
use Rattle.board.specs.Record.{shown, laid}
use Rattle.board.specs.Inner.{Sound}
use Rattle.board.specs.declared.Board.{Board}
use Rattle.moves.proofs.Ruling.{fine-allowed}
use Rattle.replay.proofs.Stepping.{moves_yes, moves_no, made_yes, made_no, became, sound_after}
use Rattle.std.proofs.lemmas.Result.{err_from_is_err_and}
use Rattle.replay.proofs.make.Goals as goal

pub ruled_at-requires : goal.ruled_at-requires
ruled_at-requires c = record { sound = c.requires.sound; m_value = c.requires.m_value }

pub returns-in_err-ruled_at : goal.returns-in_err-ruled_at
returns-in_err-ruled_at c = let b = laid c.args.cells.now c.args.foundation.now c.args.counts.now c.args.tableau.now in
    let p = err_from_is_err_and c.from_residual.result c.from_residual.ensures.1 in
    record { moves = rw (p.1, p.2) (moves_no (made_no b c.args.m (sym c.ruled_at.ensures ∙ ap answered c.in_err-ruled_at.was))); sound_2 = c.requires.sound }

pub apply_to-requires : goal.apply_to-requires
apply_to-requires c = let b = laid c.args.cells.now c.args.foundation.now c.args.counts.now c.args.tableau.now in
    record { sound = c.requires.sound; said = c.requires.m_value; allows = fine-allowed (shown b) c.args.m (sym c.ruled_at.ensures ∙ ap answered c.in_ok-ruled_at.was) }

pub returns : goal.returns
returns c = let b = laid c.args.cells.now c.args.foundation.now c.args.counts.now c.args.tableau.now in
    let ok = fine-allowed (shown b) c.args.m (sym c.ruled_at.ensures ∙ ap answered c.in_ok-ruled_at.was) in
    let same = became c.apply_to.ensures in
    record { moves = moves_yes (made_yes b c.args.m ok ∙ ap (λ (d : Board). given d) same); sound_2 = subst Sound same (sound_after b c.requires.sound c.args.m c.requires.m_value ok) }
