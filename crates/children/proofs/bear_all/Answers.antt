-- What `bear_all` leaves to be shown: one record more is a child more.
use Rattle.candidates.proofs.Picking.{told_move, never_impossible}
use Rattle.children.proofs.Reading.{read_possible}
use Rattle.children.proofs.Expanding.{stands_on, cost_on, playable_on, expanding_turn, expanding_full, expanding_end, full_bears, grown_bears}
use Rattle.children.proofs.bear_all.Goals as goal

pub returns-in_err-m : goal.returns-in_err-m
returns-in_err-m c = absurd (never_impossible _ (read_possible c.args.list.now c.loop-k.k c.requires.records c.loop-k-test.true) c.decode.ensures.result_value c.in_err-m.was)

pub bear-requires : goal.bear-requires
bear-requires c =
    let e = c.requires.n_value in
    let x = c.loop-k.invariant in
    let next = told_move _ (read_possible c.args.list.now c.loop-k.k c.requires.records c.loop-k-test.true) c.decode.ensures.result_value c.in_ok-m.was in
    record {
      stands = stands_on c.requires.stands c.args.list.now e x;
      cost_value = cost_on c.requires.stands c.args.list.now e x c.requires.cost_value;
      playable = playable_on c.requires.stands c.args.list.now e x c.loop-k-test.true next;
    }

pub returns-in_err-counts : goal.returns-in_err-counts
returns-in_err-counts c =
    let next = told_move _ (read_possible c.args.list.now c.loop-k.k c.requires.records c.loop-k-test.true) c.decode.ensures.result_value c.in_ok-m.was in
    rw c.from_residual-in_err-counts.ensures
    (expanding_full c.requires.stands c.args.list.now c.requires.n_value c.loop-k.invariant c.loop-k-test.true next (full_bears c.bear.ensures c.in_err-counts.was))

pub loop-k-preserved : goal.loop-k-preserved
loop-k-preserved c =
    let next = told_move _ (read_possible c.args.list.now c.loop-k.k c.requires.records c.loop-k-test.true) c.decode.ensures.result_value c.in_ok-m.was in
    expanding_turn c.requires.stands c.args.list.now c.requires.n_value c.loop-k.invariant c.loop-k-test.true next (grown_bears c.bear.ensures c.in_ok-counts.was)
    (record { nodes = c.bear.auto.nodes; heap = c.bear.auto.heap; keys = c.bear.auto.keys; costs = c.bear.auto.costs })

pub returns : goal.returns
returns c = expanding_end c.requires.stands c.args.list.now c.requires.n_value c.loop-k.invariant c.loop-k-test.false
