-- What `late_moves_at` leaves to be shown: nothing before forty cards are home, all unsafe moves home from then on.
use Rattle.board.specs.Record.{shown, laid}
use Rattle.moves.proofs.Writing.{adds_none}
use Rattle.candidates.proofs.Worth.{nothing_late, late_room, adds_late}
use Rattle.tried.proofs.late_moves_at.Goals as goal

pub returns-then-before-lt-ENDGAME_UNSAFE_FOUNDATION_THRESHOLD : goal.returns-then-before-lt-ENDGAME_UNSAFE_FOUNDATION_THRESHOLD
returns-then-before-lt-ENDGAME_UNSAFE_FOUNDATION_THRESHOLD c = let b = laid c.args.cells.now c.args.foundation.now c.args.counts.now c.args.tableau.now in
    adds_none _ _ (nothing_late (shown b) c.requires.before_value c.if-before-lt-ENDGAME_UNSAFE_FOUNDATION_THRESHOLD.true)

pub choose-requires : goal.choose-requires
choose-requires c = let b = laid c.args.cells.now c.args.foundation.now c.args.counts.now c.args.tableau.now in
    record { holds = c.requires.holds; before_value = c.requires.before_value; n_in_bounds = late_room (shown b) c.requires.before_value _ c.requires.n_value c.if-before-lt-ENDGAME_UNSAFE_FOUNDATION_THRESHOLD.false _ _ c.requires.tableau_in_bounds }

pub returns : goal.returns
returns c = let b = laid c.args.cells.now c.args.foundation.now c.args.counts.now c.args.tableau.now in
    adds_late (shown b) c.requires.before_value c.requires.n_value c.if-before-lt-ENDGAME_UNSAFE_FOUNDATION_THRESHOLD.false c.choose.ensures
