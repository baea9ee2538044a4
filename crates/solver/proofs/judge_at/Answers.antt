-- What `judge_at` leaves to be shown: a won start, or the root, the run and the answer.
use mathlib.Core.Path.{◌∙◌}
use native.Mathlib.Omega.{arith}
use Rattle.base.proofs.Clearing.{cleared}
use Rattle.solver.proofs.Judging.{roomy_blank, gives_won, gives_run}
use Rattle.solver.proofs.judge_at.Goals as goal

pub won_at-requires : goal.won_at-requires
won_at-requires c = c.requires.sound.in_piles

pub shape_of-costs-then-won_at : goal.shape_of-costs-then-won_at
shape_of-costs-then-won_at c = c.clear.auto.s

pub returns-then-won_at : goal.returns-then-won_at
returns-then-won_at c =
    let start = c.args in
    gives_won start.b start.budget start.room.capacity start.partial c.won_at.ensures c.if-won_at.true _

pub seed-c-requires : goal.seed-c-requires
seed-c-requires c = record { sound = c.requires.sound; blank = roomy_blank c.requires.roomy (cleared _ _ c.clear.auto.s c.clear.ensures) }

pub go-e-requires : goal.go-e-requires
go-e-requires c =
    record { sound = c.requires.sound; machine = c.seed-c.ensures.machine; pops_value = c.seed-c.ensures.pops; budget_bound = omega (arith, c.requires.budget_le_most_pops) }

pub finish-requires : goal.finish-requires
finish-requires c =
    record { sound = c.requires.sound; closed = c.go-e.ensures.closed; list_room_in_bounds = c.requires.list_room_in_bounds }

pub shape_of-nodes : goal.shape_of-nodes
shape_of-nodes c = c.go-e.auto.nodes ∙ c.seed-c.auto.nodes

pub shape_of-heap : goal.shape_of-heap
shape_of-heap c = c.go-e.auto.heap ∙ c.seed-c.auto.heap

pub shape_of-keys : goal.shape_of-keys
shape_of-keys c = c.go-e.auto.keys ∙ c.seed-c.auto.keys

pub shape_of-costs : goal.shape_of-costs
shape_of-costs c =
    c.go-e.auto.costs ∙ (c.seed-c.auto.costs ∙ c.clear.auto.s)

pub shape_of-list : goal.shape_of-list
shape_of-list c = c.finish.auto.list

pub returns : goal.returns
returns c =
    let start = c.args in
    gives_run start.b start.budget start.partial c.won_at.ensures c.if-won_at.false c.seed-c.ensures c.go-e.ensures c.finish.ensures
