-- What `apply_to` leaves to be shown: each kind is two changes of the board.
use mathlib.Core.Path.{◌≡◌, refl, sym, subst}
use mathlib.Core.Bool.{true}
use Prim.Native.Nat.{ℕ}
use lib.ListN.{set}
use Rattle.card.specs.Card.{is_card}
use Rattle.play.proofs.Changing.{becomes_cell, becomes_home}
use Rattle.play.proofs.Playing.{ready_for, played_as, run_source, run_target, run_other, run_enough, run_fits, run_again, run_played, value_of, is_card_of, column_from, cell_from, column_to, cell_to, one_there, home-there, played_2, played_3, room_4, played_4, played_5, room_6, played_6}
use Rattle.board.specs.Record.{laid}
use Rattle.play.proofs.apply_to.Goals as goal

pub put_run-requires : goal.put_run-requires
put_run-requires c = let r = ready_for c.requires c.in-TableauToTableau.is in record { good_columns = r.sound.in_columns; source_bound = run_source r; destination_bound = run_target r; fact = run_other r; n_bound = run_enough r; n_bound_2 = run_fits r }

pub drop_top-requires : goal.drop_top-requires
drop_top-requires c = let r = ready_for c.requires c.in-TableauToTableau.is in let e = c.put_run.ensures.becomes c.args.cells.now c.args.foundation.now in record { good_columns = e.good; i_bound = run_source r; n_bound = run_again r e }

pub drop_top-requires-in-TableauToFoundation : goal.drop_top-requires-in-TableauToFoundation
drop_top-requires-in-TableauToFoundation c = let r = ready_for c.requires c.in-TableauToFoundation.is in record { good_columns = r.sound.in_columns; i_bound = column_from r _ refl; n_bound = one_there r _ refl }

pub drop_top-requires-in-TableauToFreeCell : goal.drop_top-requires-in-TableauToFreeCell
drop_top-requires-in-TableauToFreeCell c = let r = ready_for c.requires c.in-TableauToFreeCell.is in record { good_columns = r.sound.in_columns; i_bound = column_from r _ refl; n_bound = one_there r _ refl }

pub code_of-requires : goal.code_of-requires
code_of-requires c = let r = ready_for c.requires c.in-TableauToFreeCell.is in value_of r

pub bounds-cells-cell_index : goal.bounds-cells-cell_index
bounds-cells-cell_index c = let r = ready_for c.requires c.in-TableauToFreeCell.is in cell_to r _ refl

pub bounds-cells-cell_index-in-FreeCellToTableau : goal.bounds-cells-cell_index-in-FreeCellToTableau
bounds-cells-cell_index-in-FreeCellToTableau c = let r = ready_for c.requires c.in-FreeCellToTableau.is in cell_from r _ refl

pub code_of-requires-in-FreeCellToTableau : goal.code_of-requires-in-FreeCellToTableau
code_of-requires-in-FreeCellToTableau c = let r = ready_for c.requires c.in-FreeCellToTableau.is in value_of r

pub lay-requires : goal.lay-requires
lay-requires c = let r = ready_for c.requires c.in-FreeCellToTableau.is in record { good_columns = r.sound.in_columns; i_bound = column_to r _ refl; i_bound_2 = room_4 r (becomes_cell (laid c.args.cells.now c.args.foundation.now c.args.counts.now c.args.tableau.now) r.sound.in_columns _ 255); code_value = subst (λ (x : ℕ). is_card x ≡ true) (sym c.code_of-in-FreeCellToTableau.ensures) (is_card_of r) }

pub bounds-cells-cell_index-in-FreeCellToFoundation : goal.bounds-cells-cell_index-in-FreeCellToFoundation
bounds-cells-cell_index-in-FreeCellToFoundation c = let r = ready_for c.requires c.in-FreeCellToFoundation.is in cell_from r _ refl

pub leave_home-requires : goal.leave_home-requires
leave_home-requires c = let r = ready_for c.requires c.in-FoundationToTableau.is in record { good_piles = r.sound.in_piles; bound = home-there r _ refl }

pub code_of-requires-in-FoundationToTableau : goal.code_of-requires-in-FoundationToTableau
code_of-requires-in-FoundationToTableau c = let r = ready_for c.requires c.in-FoundationToTableau.is in value_of r

pub lay-requires-in-FoundationToTableau : goal.lay-requires-in-FoundationToTableau
lay-requires-in-FoundationToTableau c = let r = ready_for c.requires c.in-FoundationToTableau.is in record { good_columns = r.sound.in_columns; i_bound = column_to r _ refl; i_bound_2 = room_6 r (becomes_home (laid c.args.cells.now c.args.foundation.now c.args.counts.now c.args.tableau.now) r.sound.in_columns _ _ c.leave_home.ensures); code_value = subst (λ (x : ℕ). is_card x ≡ true) (sym c.code_of-in-FoundationToTableau.ensures) (is_card_of r) }

pub returns-in-TableauToTableau : goal.returns-in-TableauToTableau
returns-in-TableauToTableau c = let r = ready_for c.requires c.in-TableauToTableau.is in played_as c.requires c.in-TableauToTableau.is (run_played r (c.put_run.ensures.becomes c.args.cells.now c.args.foundation.now) (c.drop_top.ensures.becomes c.args.cells.now c.args.foundation.now))

pub returns-in-TableauToFoundation : goal.returns-in-TableauToFoundation
returns-in-TableauToFoundation c = let r = ready_for c.requires c.in-TableauToFoundation.is in let e = c.drop_top-in-TableauToFoundation.ensures.becomes c.args.cells.now c.args.foundation.now in played_as c.requires c.in-TableauToFoundation.is (played_2 r e (becomes_home (laid c.args.cells.now c.args.foundation.now c.drop_top-in-TableauToFoundation.new.counts c.drop_top-in-TableauToFoundation.new.tableau) e.good _ _ c.go_home.ensures))

pub returns-in-TableauToFreeCell : goal.returns-in-TableauToFreeCell
returns-in-TableauToFreeCell c = let r = ready_for c.requires c.in-TableauToFreeCell.is in let e = c.drop_top-in-TableauToFreeCell.ensures.becomes c.args.cells.now c.args.foundation.now in played_as c.requires c.in-TableauToFreeCell.is (played_3 r e c.code_of.ensures (becomes_cell (laid c.args.cells.now c.args.foundation.now c.drop_top-in-TableauToFreeCell.new.counts c.drop_top-in-TableauToFreeCell.new.tableau) e.good _ _))

pub returns-in-FreeCellToTableau : goal.returns-in-FreeCellToTableau
returns-in-FreeCellToTableau c = let r = ready_for c.requires c.in-FreeCellToTableau.is in played_as c.requires c.in-FreeCellToTableau.is (played_4 r (becomes_cell (laid c.args.cells.now c.args.foundation.now c.args.counts.now c.args.tableau.now) r.sound.in_columns _ 255) c.code_of-in-FreeCellToTableau.ensures (c.lay.ensures.becomes (set c.args.cells.now c.in-FreeCellToTableau.cell_index 255) c.args.foundation.now))

pub returns-in-FreeCellToFoundation : goal.returns-in-FreeCellToFoundation
returns-in-FreeCellToFoundation c = let r = ready_for c.requires c.in-FreeCellToFoundation.is in played_as c.requires c.in-FreeCellToFoundation.is (played_5 r (becomes_cell (laid c.args.cells.now c.args.foundation.now c.args.counts.now c.args.tableau.now) r.sound.in_columns _ 255) (becomes_home (laid (set c.args.cells.now c.in-FreeCellToFoundation.cell_index 255) c.args.foundation.now c.args.counts.now c.args.tableau.now) r.sound.in_columns _ _ c.go_home-in-FreeCellToFoundation.ensures))

pub returns-in-FoundationToTableau : goal.returns-in-FoundationToTableau
returns-in-FoundationToTableau c = let r = ready_for c.requires c.in-FoundationToTableau.is in played_as c.requires c.in-FoundationToTableau.is (played_6 r (becomes_home (laid c.args.cells.now c.args.foundation.now c.args.counts.now c.args.tableau.now) r.sound.in_columns _ _ c.leave_home.ensures) c.code_of-in-FoundationToTableau.ensures (c.lay-in-FoundationToTableau.ensures.becomes c.args.cells.now c.leave_home.new.foundation))
