-- What `run_onto` leaves to be shown: none fits, or the one that does.
use mathlib.Core.Path.{sym, subst}
use mathlib.Core.List.{List}
use Prim.Native.Nat.{◌+◌, ◌*◌, ◌≤◌}
use native.Mathlib.Omega.{arith}
use lib.ListN.{length}
use Rattle.moves.specs.declared.Move.{Move}
use Rattle.moves.proofs.Writing.{adds_none, adds_same}
use Rattle.generate.proofs.Columns.{none_fits_lem, too_far, only_run}
use Rattle.run_moves.proofs.run_onto.Goals as goal

pub returns-then-upper-top : goal.returns-then-upper-top
returns-then-upper-top c = adds_none _ _ (none_fits_lem c.requires.between c.requires.nonzero c.top_value-upper.ensures c.top_value-top.ensures c.if-upper-top.true)

pub returns-then-last-only : goal.returns-then-last-only
returns-then-last-only c = adds_none _ _ (too_far c.requires.between c.requires.nonzero c.top_value-upper.ensures c.top_value-top.ensures c.if-last-only.true)

pub offer_run-requires-clause-k_in_bounds : goal.offer_run-requires-clause-k_in_bounds
offer_run-requires-clause-k_in_bounds c = subst (λ (l : List Move). (c.args.n + length l) * 5 ≤ length c.args.out.now) (only_run c.requires.between c.requires.nonzero c.top_value-upper.ensures c.top_value-top.ensures (omega (arith, c.if-upper-top.false)) (omega (arith, c.if-last-only.false))) c.requires.j_in_bounds

pub returns : goal.returns
returns c = adds_same (sym (only_run c.requires.between c.requires.nonzero c.top_value-upper.ensures c.top_value-top.ensures (omega (arith, c.if-upper-top.false)) (omega (arith, c.if-last-only.false)))) c.offer_run.ensures
