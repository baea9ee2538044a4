-- What `corbelnib_judge` leaves to be shown: another length, an answer, or a refusal.
use mathlib.Core.Path.{refl, ap}
use Rattle.corbelnib.specs.Calls.{search_left}
use Rattle.corbelnib.proofs.Judging.{judge_none, judge_answers, judge_refuses}
use Rattle.corbelnib.proofs.corbelnib_judge.Goals as goal

pub returns-in-Err : goal.returns-in-Err
returns-in-Err c = ap search_left (judge_none c.args.nodes.now c.args.heap.now c.args.keys.now c.args.costs.now c.args.list.now c.args.pops.now c.args.moves.now c.args.board.now c.args.budget c.args.partial c.lent.result c.lent.ensures c.in-Err.is c.number.ensures)

pub returns-in-Ok-solve : goal.returns-in-Ok-solve
returns-in-Ok-solve c = ap search_left (judge_answers c.args.nodes.now c.args.heap.now c.args.keys.now c.args.costs.now c.args.list.now c.args.pops.now c.args.moves.now c.args.board.now c.args.budget c.args.partial c.lent.result c.lent.ensures c.in-Ok.is refl c.solve.result c.solve.ensures c.in-Ok-solve.is c.number-in-Ok-solve.ensures)

pub returns-in-Err-solve : goal.returns-in-Err-solve
returns-in-Err-solve c = ap search_left (judge_refuses c.args.nodes.now c.args.heap.now c.args.keys.now c.args.costs.now c.args.list.now c.args.pops.now c.args.moves.now c.args.board.now c.args.budget c.args.partial c.lent.result c.lent.ensures c.in-Ok.is refl c.solve.result c.solve.ensures c.in-Err-solve.is c.number-in-Err-solve.ensures)
