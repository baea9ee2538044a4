-- What `let_go` leaves to be shown: each turn frees a place and goes on to its parent.
use Rattle.kin.proofs.Going.{bounds, going_start, going_turn, going_there, going_up, going_end}
use Rattle.kin.proofs.let_go.Goals as goal

pub refs_of-refs-requires : goal.refs_of-refs-requires
refs_of-refs-requires c = (bounds c.requires).worded

pub loop-refs-init : goal.loop-refs-init
loop-refs-init c = going_start c.requires c.refs_of-refs.ensures

pub parent_of-at-requires : goal.parent_of-at-requires
parent_of-at-requires c = going_there c.loop-refs.invariant c.put_refs.ensures

pub refs_of-refs-requires-in-loop-refs : goal.refs_of-refs-requires-in-loop-refs
refs_of-refs-requires-in-loop-refs c = going_up c.loop-refs.invariant c.loop-refs-test.true c.put_refs.ensures c.parent_of-at.ensures

pub loop-refs-preserved : goal.loop-refs-preserved
loop-refs-preserved c = going_turn c.loop-refs.invariant c.loop-refs-test.true c.put_refs.ensures c.parent_of-at.ensures c.refs_of-refs-in-loop-refs.ensures

pub returns : goal.returns
returns c = going_end c.loop-refs.invariant c.loop-refs-test.false c.put_refs-2.ensures
