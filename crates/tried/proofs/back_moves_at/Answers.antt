-- What `back_moves_at` leaves to be shown: the moves back are written, and chosen from.
use native.Mathlib.Omega.{arith}
use Rattle.board.specs.Record.{shown, laid}
use Rattle.generate.specs.declared.Way.TheVariants.{HomeToColumn}
use Rattle.candidates.specs.Candidates.{worthwhile}
use Rattle.candidates.proofs.Trying.{all_found}
use Rattle.candidates.proofs.Listing.{holds-written}
use Rattle.candidates.proofs.Adding.{back_room, pick_room, picked}
use Rattle.board.proofs.Fair.{shows_fair}
use Rattle.tried.proofs.back_moves_at.Goals as goal

pub find_at-n-requires : goal.find_at-n-requires
find_at-n-requires c = let b = laid c.args.cells.now c.args.foundation.now c.args.counts.now c.args.tableau.now in
    record { sound = c.requires.sound; way_in_bounds = back_room (shown b) }

pub choose-requires : goal.choose-requires
choose-requires c = let b = laid c.args.cells.now c.args.foundation.now c.args.counts.now c.args.tableau.now in
    record { holds = holds-written c.find_at-n.ensures c.requires.sound (all_found (shown b) (shows_fair c.requires.sound) HomeToColumn) (omega (arith, back_room (shown b))); before_value = c.requires.before_value; n_in_bounds = pick_room c.find_at-n.ensures (worthwhile (shown b)) _ _ c.requires.tableau_in_bounds }

pub returns : goal.returns
returns c = let b = laid c.args.cells.now c.args.foundation.now c.args.counts.now c.args.tableau.now in
    picked c.find_at-n.ensures (worthwhile (shown b)) c.choose.ensures
