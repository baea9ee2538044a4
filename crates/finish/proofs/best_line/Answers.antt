-- What `best_line` leaves to be shown: whether the best line is handed over.
use native.Mathlib.Omega.{arith}
use Rattle.board.specs.Record.{shown}
use Rattle.nodes.specs.Line.{line_to}
use Rattle.finish.proofs.Handing.{best_comes, best_is_root, best_unasked, gives_line, gives_nothing}
use Rattle.finish.proofs.best_line.Goals as goal

pub with_line-requires : goal.with_line-requires
with_line-requires c = record { sound = c.requires.sound; nodes = c.requires.nodes; i_lt_born = c.requires.best_lt_born; list_room_in_bounds = c.requires.list_room_in_bounds }

pub returns-then-c-gt0 : goal.returns-then-c-gt0
returns-then-c-gt0 c = gives_line c.args.with c.args.without (line_to (shown c.args.root) c.args.nodes.now c.args.c.best) c.args.c.pops (best_comes c.args.partial c.args.c.best c.if-partial.true c.if-c-gt0.true) c.with_line.ensures

pub returns-else-c-gt0 : goal.returns-else-c-gt0
returns-else-c-gt0 c = gives_nothing c.args.with c.args.without (line_to (shown c.args.root) c.args.nodes.now c.args.c.best) c.args.c.pops _ (best_is_root c.args.partial c.args.c.best c.if-partial.true (omega (arith, c.if-c-gt0.false)))

pub returns-else-partial : goal.returns-else-partial
returns-else-partial c = gives_nothing c.args.with c.args.without (line_to (shown c.args.root) c.args.nodes.now c.args.c.best) c.args.c.pops _ (best_unasked c.args.partial c.args.c.best c.if-partial.false)
