-- What `finish` leaves to be shown: each way that a search ends.
use mathlib.Core.List.{[]}
use Rattle.board.specs.Record.{shown}
use Rattle.finish.specs.declared.Said.TheVariants.{OutOfNodes}
use Rattle.finish.proofs.Handing.{gives_none, closed_won, closed_limit, closed_exhausted, gives_by}
use Rattle.finish.proofs.finish.Goals as goal

pub with_line-requires : goal.with_line-requires
with_line-requires c = record { sound = c.requires.sound; nodes = (closed_won c.in-Won.is c.requires.closed).1; i_lt_born = (closed_won c.in-Won.is c.requires.closed).0; list_room_in_bounds = c.requires.list_room_in_bounds }

pub limit_line-requires : goal.limit_line-requires
limit_line-requires c = record { sound = c.requires.sound; nodes = (closed_limit c.in-Limit.is c.requires.closed).1; best_lt_born = (closed_limit c.in-Limit.is c.requires.closed).0; list_room_in_bounds = c.requires.list_room_in_bounds }

pub best_line-requires : goal.best_line-requires
best_line-requires c = record { sound = c.requires.sound; nodes = (closed_exhausted c.in-Exhausted.is c.requires.closed).1; best_lt_born = (closed_exhausted c.in-Exhausted.is c.requires.closed).0; list_room_in_bounds = c.requires.list_room_in_bounds }

pub returns-in-Won : goal.returns-in-Won
returns-in-Won c = gives_by (shown c.args.root) c.args.nodes.now c.args.partial c.in-Won.is c.with_line.ensures

pub returns-in-Limit : goal.returns-in-Limit
returns-in-Limit c = gives_by (shown c.args.root) c.args.nodes.now c.args.partial c.in-Limit.is c.limit_line.ensures

pub returns-in-Exhausted : goal.returns-in-Exhausted
returns-in-Exhausted c = gives_by (shown c.args.root) c.args.nodes.now c.args.partial c.in-Exhausted.is c.best_line.ensures

pub returns-in-OutOfNodes : goal.returns-in-OutOfNodes
returns-in-OutOfNodes c = gives_by (shown c.args.root) c.args.nodes.now c.args.partial c.in-OutOfNodes.is (gives_none OutOfNodes OutOfNodes [] _ _)
