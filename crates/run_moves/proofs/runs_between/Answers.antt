-- What `runs_between` leaves to be shown: none onto itself, the lengths into an empty column, the one onto an occupied column.
use mathlib.Core.Path.{sym}
use Rattle.moves.proofs.Writing.{adds_none, adds_same}
use Rattle.generate.proofs.Columns.{own_column_lem, runs_of, runs-room}
use Rattle.run_moves.proofs.runs_between.Goals as goal

pub returns-then-i-j : goal.returns-then-i-j
returns-then-i-j c = adds_none _ _ (own_column_lem _ _ _ c.if-i-j.true)

pub runs_into-requires-clause-j_in_bounds : goal.runs_into-requires-clause-j_in_bounds
runs_into-requires-clause-j_in_bounds c = runs-room c.requires.sound c.args.i c.args.j c.requires.i_bound c.requires.run_value c.most_at-most.ensures c.min-last.ensures c.args.n c.requires.j_in_bounds

pub returns-then-counts-j-eq0 : goal.returns-then-counts-j-eq0
returns-then-counts-j-eq0 c = adds_same (sym (runs_of c.requires.sound c.args.i c.args.j c.requires.i_bound c.requires.run_value c.most_at-most.ensures c.min-last.ensures)) c.runs_into.ensures

pub run_onto-requires-clause-j_in_bounds : goal.run_onto-requires-clause-j_in_bounds
run_onto-requires-clause-j_in_bounds c = runs-room c.requires.sound c.args.i c.args.j c.requires.i_bound c.requires.run_value c.most_at-most.ensures c.min-last.ensures c.args.n c.requires.j_in_bounds

pub returns : goal.returns
returns c = adds_same (sym (runs_of c.requires.sound c.args.i c.args.j c.requires.i_bound c.requires.run_value c.most_at-most.ensures c.min-last.ensures)) c.run_onto.ensures
