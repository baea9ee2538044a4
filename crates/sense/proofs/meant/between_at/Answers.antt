-- What `between_at` leaves to be shown: an empty column takes the most, an occupied one what fits.
use Rattle.board.specs.Refusal.{answered}
use mathlib.Core.Path.{◌≡◌, ap, ◌∙◌, subst}
use native.Mathlib.Omega.{arith}
use Rattle.std.specs.Prelude.{Some, None, Err}
use Rattle.std.proofs.lemmas.Result.{err_from_is_err_and}
use Rattle.board.specs.Record.{shown, laid}
use Rattle.board.specs.declared.Refusal.TheVariants.{NoFit}
use Rattle.play.proofs.Playing.{count-there}
use Rattle.sense.specs.Meant.{fitting}
use Rattle.sense.specs.Inner.{Fitting}
use Rattle.sense.proofs.Meaning.{most_some}
use Rattle.sense.proofs.Finding.{most_there, fitting-there, vacant_yes, vacant_no, means_most, means_fit, fits_none}
use Rattle.sense.proofs.meant.between_at.Goals as goal
use Rattle.sense.proofs.meant.between_at.Goals.{then-counts-j-eq0, else-counts-j-eq0+in_ok-count}

pub returns-in_err-count : goal.returns-in_err-count
returns-in_err-count c =
    let b = laid c.args.cells.now c.args.foundation.now c.args.counts.now c.args.tableau.now in
    let none : c.fitting_at.result ≡ None = grind arith in
    let zero : fitting (shown b) c.args.i c.args.j ≡ 0 = subst (Fitting (fitting (shown b) c.args.i c.args.j)) none c.fitting_at.ensures in
    let p = err_from_is_err_and c.from_residual.result c.from_residual.ensures.1 in
    let why : c.from_residual.result ≡ Err NoFit = grind arith in
    ap answered why ∙ fits_none (shown b) c.args.i c.args.j (vacant_no c.requires.sound c.args.j c.requires.j_bound c.if-counts-j-eq0.false) zero

pub run_move-requires-clause-le_n : goal.run_move-requires-clause-le_n
run_move-requires-clause-le_n c =
    let b = laid c.args.cells.now c.args.foundation.now c.args.counts.now c.args.tableau.now in
    elim c.if-counts-j-eq0.branch [
      | then-counts-j-eq0 w ↦
          let lies = count-there b c.requires.sound.in_columns c.args.i c.requires.i_bound in
          omega (arith, most_some (shown b) c.args.i c.args.j (omega arith))
      | else-counts-j-eq0+in_ok-count w ↦
          let some : w.fitting_at.result ≡ Some w.in_ok-count.count = grind arith in
          omega (arith, subst (Fitting (fitting (shown b) c.args.i c.args.j)) some w.fitting_at.ensures)
    ]

pub run_move-requires-clause-n_bound : goal.run_move-requires-clause-n_bound
run_move-requires-clause-n_bound c =
    let b = laid c.args.cells.now c.args.foundation.now c.args.counts.now c.args.tableau.now in
    elim c.if-counts-j-eq0.branch [
      | then-counts-j-eq0 w ↦ omega (arith, most_there c.requires.sound c.args.i c.args.j c.requires.i_bound)
      | else-counts-j-eq0+in_ok-count w ↦
          let some : w.fitting_at.result ≡ Some w.in_ok-count.count = grind arith in
          let fits = subst (Fitting (fitting (shown b) c.args.i c.args.j)) some w.fitting_at.ensures in
          omega (arith, fitting-there c.requires.sound c.args.i c.args.j c.requires.i_bound)
    ]

pub returns : goal.returns
returns c =
    let b = laid c.args.cells.now c.args.foundation.now c.args.counts.now c.args.tableau.now in
    elim c.if-counts-j-eq0.branch [
      | then-counts-j-eq0 w ↦
          means_most (shown b) c.args.i c.args.j (vacant_yes c.requires.sound c.args.j c.requires.j_bound w.if-counts-j-eq0.true) (w.count-is ∙ w.most_into-count.ensures) c.run_move.ensures
      | else-counts-j-eq0+in_ok-count w ↦
          let some : w.fitting_at.result ≡ Some w.in_ok-count.count = grind arith in
          let fits = subst (Fitting (fitting (shown b) c.args.i c.args.j)) some w.fitting_at.ensures in
          means_fit (shown b) c.args.i c.args.j (vacant_no c.requires.sound c.args.j c.requires.j_bound w.if-counts-j-eq0.false) (w.count-is ∙ fits.0) (omega arith) c.run_move.ensures
    ]
