-- What `limit_line` leaves to be shown: the best line, by the name that it has.
use mathlib.Core.Bool.{not, ◌&&◌}
use lib.Dec.{eqb}
use Rattle.board.specs.Record.{shown}
use Rattle.nodes.specs.Line.{line_to}
use Rattle.finish.specs.declared.Said.TheVariants.{Limit}
use Rattle.finish.proofs.Handing.{gives_called}
use Rattle.finish.proofs.limit_line.Goals as goal

pub returns : goal.returns
returns c =
    let start = c.args in
    gives_called (start.partial && not (eqb start.c.best 0)) Limit (line_to (shown start.root) start.nodes.now start.c.best) start.c.pops
    c.best_said-with.ensures c.best_line.ensures
