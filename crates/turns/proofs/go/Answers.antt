-- What `go` leaves to be shown: turn after turn, until something ends the run.
use native.Mathlib.Omega.{arith}
use Rattle.turns.proofs.Going.{going_limit, going_exhausted, going_turn, going_won, going_stuck}
use Rattle.turns.proofs.go.Goals as goal

pub returns-then-counts-eq0 : goal.returns-then-counts-eq0
returns-then-counts-eq0 c = going_exhausted c.loop.invariant c.if-counts-eq0.true

pub returns-in-WonBy : goal.returns-in-WonBy
returns-in-WonBy c = going_won c.loop.invariant c.loop-test.true c.advance.ensures c.in-WonBy.is

pub returns-in-OutOfNodes : goal.returns-in-OutOfNodes
returns-in-OutOfNodes c = going_stuck c.loop.invariant c.loop-test.true c.advance.ensures c.in-OutOfNodes.is

pub loop-preserved : goal.loop-preserved
loop-preserved c =
    going_turn c.loop.invariant c.loop-test.true c.advance.ensures c.in-Again.is
    (record { nodes = c.advance.auto.nodes; heap = c.advance.auto.heap; keys = c.advance.auto.keys; costs = c.advance.auto.costs })

pub returns-then-counts-gt0 : goal.returns-then-counts-gt0
returns-then-counts-gt0 c = going_limit c.loop.invariant (omega (arith, c.loop-test.false)) c.if-counts-gt0.true

pub returns : goal.returns
returns c = going_exhausted c.loop.invariant (omega (arith, c.if-counts-gt0.false))
