-- What `counted_at` leaves to be shown: a count goes into an empty column, from 1 to below the most.
use mathlib.Core.Bool.{false, ◌&&◌}
use mathlib.Core.Path.{◌≡◌}
use Prim.Native.Nat.{◌<◌, ◌≤◌}
use native.Mathlib.Omega.{arith}
use lib.Dec.{leb, ltb}
use Rattle.std.proofs.lemmas.Bool.Decides.{nat_tests}
use Rattle.board.specs.Record.{shown, laid}
use Rattle.sense.proofs.Finding.{most_there, vacant_yes, vacant_no, count_occupied, count_outside, count_means}
use Rattle.sense.proofs.meant.counted_at.Goals as goal
use Rattle.sense.proofs.meant.counted_at.Goals.{else-counts-j-eq0-via-then-counts-j-eq0+else-contains, else-counts-j-eq0-via-else-counts-j-eq0}

pub run_move-requires-clause-n_bound : goal.run_move-requires-clause-n_bound
run_move-requires-clause-n_bound c =
    let below : c.args.n ≤ c.most_into-most.result = grind (arith, nat_tests) in
    omega (arith, most_there c.requires.sound c.args.i c.args.j c.requires.i_bound)

pub returns-then-contains : goal.returns-then-contains
returns-then-contains c =
    let b = laid c.args.cells.now c.args.foundation.now c.args.counts.now c.args.tableau.now in
    let vacant = vacant_yes c.requires.sound c.args.j c.requires.j_bound c.if-counts-j-eq0.true in
    let some : 1 ≤ c.args.n = grind (arith, nat_tests) in
    let below : c.args.n < c.most_into-most.result = grind (arith, nat_tests) in
    count_means (shown b) c.args.i c.args.j c.args.n c.most_into-most.ensures vacant some below c.run_move.ensures

pub returns-else-counts-j-eq0 : goal.returns-else-counts-j-eq0
returns-else-counts-j-eq0 c =
    let b = laid c.args.cells.now c.args.foundation.now c.args.counts.now c.args.tableau.now in
    elim c.else-counts-j-eq0.branch [
      | else-counts-j-eq0-via-then-counts-j-eq0+else-contains w ↦
          let outside : (leb 1 c.args.n && ltb c.args.n c.most_into-most.result) ≡ false = grind (arith, nat_tests) in
          count_outside (shown b) c.args.i c.args.j c.args.n c.most_into-most.ensures outside
      | else-counts-j-eq0-via-else-counts-j-eq0 w ↦
          count_occupied (shown b) c.args.i c.args.j c.args.n (vacant_no c.requires.sound c.args.j c.requires.j_bound w.if-counts-j-eq0.false)
    ]
