-- What `home_moves_at` leaves to be shown: the columns' moves and the cells' are the moves home.
use mathlib.Core.Path.{ap}
use mathlib.Core.List.{List, ◌++◌, append-nil}
use Rattle.board.specs.Record.{shown, laid}
use Rattle.moves.specs.declared.Move.{Move}
use Rattle.moves.proofs.Writing.{adds_same}
use Rattle.generate.specs.Found.{found}
use Rattle.generate.specs.declared.Way.TheVariants.{ColumnToHome, CellToHome}
use Rattle.candidates.proofs.Adding.{home-room, adds_home}
use Rattle.tried.proofs.home_moves_at.Goals as goal

pub find_all-requires-clause-ways_in_bounds : goal.find_all-requires-clause-ways_in_bounds
find_all-requires-clause-ways_in_bounds c = let b = laid c.args.cells.now c.args.foundation.now c.args.counts.now c.args.tableau.now in
    rw (append-nil (found (shown b) CellToHome)) (home-room (shown b) _ c.requires.in_bounds)

pub returns : goal.returns
returns c = let b = laid c.args.cells.now c.args.foundation.now c.args.counts.now c.args.tableau.now in
    adds_home (shown b) (adds_same (ap (λ (l : List Move). found (shown b) ColumnToHome ++ l) (append-nil (found (shown b) CellToHome))) c.find_all.ensures)
