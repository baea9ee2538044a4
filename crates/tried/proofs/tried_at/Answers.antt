-- What `tried_at` leaves to be shown: kind after kind is written.
use mathlib.Core.List.{◌++◌}
use native.Mathlib.Omega.{arith}
use Rattle.board.specs.Record.{shown, laid}
use Rattle.generate.specs.Found.{found}
use Rattle.generate.specs.declared.Way.TheVariants.{HomeToColumn}
use Rattle.safe.specs.Safe.{chosen, is_safe, home_moves}
use Rattle.candidates.specs.Candidates.{worthwhile, late_moves}
use Rattle.candidates.proofs.Trying.{all-home, most_home}
use Rattle.candidates.proofs.Listing.{holds-written, moves_written}
use Rattle.candidates.proofs.Adding.{first-room, next_room, adds_both, others, rest, tried-room, adds_tried, pick_room, picked}
use Rattle.board.proofs.Fair.{shows_fair}
use Rattle.tried.proofs.tried_at.Goals as goal

pub choose-safe-requires : goal.choose-safe-requires
choose-safe-requires c = let b = laid c.args.cells.now c.args.foundation.now c.args.counts.now c.args.tableau.now in
    record { holds = holds-written c.home_moves_at-n.ensures c.requires.sound (all-home (shown b) (shows_fair c.requires.sound)) (omega (arith, most_home (shown b))); before_value = c.requires.before_value; n_in_bounds = pick_room c.home_moves_at-n.ensures (is_safe (shown b)) _ _ (first-room (chosen (is_safe (shown b)) (home_moves (shown b))) (rest (shown b)) _ _ (tried-room (shown b) _ c.requires.tried_room_in_bounds)) }

pub back_moves_at-back-requires : goal.back_moves_at-back-requires
back_moves_at-back-requires c = let b = laid c.args.cells.now c.args.foundation.now c.args.counts.now c.args.tableau.now in
    record { sound = c.requires.sound; before_value = c.requires.before_value; tableau_in_bounds = first-room (chosen (worthwhile (shown b)) (found (shown b) HomeToColumn)) (others (shown b) ++ late_moves (shown b)) _ _ (next_room (chosen (is_safe (shown b)) (home_moves (shown b))) (rest (shown b)) (tried-room (shown b) _ c.requires.tried_room_in_bounds) (picked c.home_moves_at-n.ensures (is_safe (shown b)) c.choose-safe.ensures)) }

pub other_moves_at-others-requires : goal.other_moves_at-others-requires
other_moves_at-others-requires c = let b = laid c.args.cells.now c.args.foundation.now c.args.counts.now c.args.tableau.now in
    record { sound = c.requires.sound; tableau_in_bounds = first-room (others (shown b)) (late_moves (shown b)) _ _ (next_room (chosen (worthwhile (shown b)) (found (shown b) HomeToColumn)) (others (shown b) ++ late_moves (shown b)) (next_room (chosen (is_safe (shown b)) (home_moves (shown b))) (rest (shown b)) (tried-room (shown b) _ c.requires.tried_room_in_bounds) (picked c.home_moves_at-n.ensures (is_safe (shown b)) c.choose-safe.ensures)) c.back_moves_at-back.ensures) }

pub late_moves_at-requires : goal.late_moves_at-requires
late_moves_at-requires c = let b = laid c.args.cells.now c.args.foundation.now c.args.counts.now c.args.tableau.now in
    record { holds = holds-written c.home_moves_at-n.ensures c.requires.sound (all-home (shown b) (shows_fair c.requires.sound)) (omega (arith, most_home (shown b))); n_value = moves_written c.home_moves_at-n.ensures; before_value = c.requires.before_value; tableau_in_bounds = next_room (others (shown b)) (late_moves (shown b)) (next_room (chosen (worthwhile (shown b)) (found (shown b) HomeToColumn)) (others (shown b) ++ late_moves (shown b)) (next_room (chosen (is_safe (shown b)) (home_moves (shown b))) (rest (shown b)) (tried-room (shown b) _ c.requires.tried_room_in_bounds) (picked c.home_moves_at-n.ensures (is_safe (shown b)) c.choose-safe.ensures)) c.back_moves_at-back.ensures) c.other_moves_at-others.ensures }

pub returns : goal.returns
returns c = let b = laid c.args.cells.now c.args.foundation.now c.args.counts.now c.args.tableau.now in
    adds_tried (shown b) (adds_both (chosen (is_safe (shown b)) (home_moves (shown b))) (rest (shown b)) (tried-room (shown b) _ c.requires.tried_room_in_bounds) (picked c.home_moves_at-n.ensures (is_safe (shown b)) c.choose-safe.ensures) (adds_both (chosen (worthwhile (shown b)) (found (shown b) HomeToColumn)) (others (shown b) ++ late_moves (shown b)) (next_room (chosen (is_safe (shown b)) (home_moves (shown b))) (rest (shown b)) (tried-room (shown b) _ c.requires.tried_room_in_bounds) (picked c.home_moves_at-n.ensures (is_safe (shown b)) c.choose-safe.ensures)) c.back_moves_at-back.ensures (adds_both (others (shown b)) (late_moves (shown b)) (next_room (chosen (worthwhile (shown b)) (found (shown b) HomeToColumn)) (others (shown b) ++ late_moves (shown b)) (next_room (chosen (is_safe (shown b)) (home_moves (shown b))) (rest (shown b)) (tried-room (shown b) _ c.requires.tried_room_in_bounds) (picked c.home_moves_at-n.ensures (is_safe (shown b)) c.choose-safe.ensures)) c.back_moves_at-back.ensures) c.other_moves_at-others.ensures c.late_moves_at.ensures)))
