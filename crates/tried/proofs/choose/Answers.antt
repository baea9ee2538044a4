-- What `choose` leaves to be shown: one record more is looked at.
use Rattle.board.specs.Record.{shown, laid}
use Rattle.moves.proofs.Writing.{adds_same}
use Rattle.generate.proofs.Writing.{walk_start, walk_room, walk_on, walk_end}
use Rattle.candidates.specs.Inner.{meets}
use Rattle.candidates.proofs.Listing.{part_ready, part_possible, part_room, part_adds}
use Rattle.candidates.proofs.Picking.{chosen_moves, choice_room}
use Rattle.tried.proofs.choose.Goals as goal

pub loop-k-init : goal.loop-k-init
loop-k-init c = walk_start _ _ _ _

pub keep-made-requires : goal.keep-made-requires
keep-made-requires c = let b = laid c.args.cells.now c.args.foundation.now c.args.counts.now c.args.tableau.now in
    record { ready = part_ready c.args.list.now c.loop-k.k c.requires.holds c.loop-k-test.true; before_value = c.requires.before_value; bytes_value = part_possible c.args.list.now c.loop-k.k c.requires.holds c.loop-k-test.true; bytes_in_bounds = part_room c.args.list.now c.loop-k.k (meets c.args.test (shown b)) _ _ (walk_room (choice_room _ _ _ _ _ c.requires.n_in_bounds) c.loop-k.invariant c.loop-k-test.true) }

pub loop-k-preserved : goal.loop-k-preserved
loop-k-preserved c = let b = laid c.args.cells.now c.args.foundation.now c.args.counts.now c.args.tableau.now in
    walk_on (choice_room _ _ _ _ _ c.requires.n_in_bounds) c.loop-k.invariant c.loop-k-test.true (part_adds c.args.list.now c.loop-k.k (meets c.args.test (shown b)) c.keep-made.ensures)

pub returns : goal.returns
returns c = let b = laid c.args.cells.now c.args.foundation.now c.args.counts.now c.args.tableau.now in
    adds_same (chosen_moves (meets c.args.test (shown b)) c.args.list.now c.args.n) (walk_end (choice_room _ _ _ _ _ c.requires.n_in_bounds) c.loop-k.invariant c.loop-k-test.false)
