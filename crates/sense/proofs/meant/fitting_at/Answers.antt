-- What `fitting_at` leaves to be shown: from the longest run down, the first that fits.
use mathlib.Core.Path.{sym, ◌∙◌}
use native.Mathlib.Omega.{arith}
use Rattle.sense.proofs.Finding.{fit_is, fits_start, fits_stop, fits_turn, fits_end}
use Rattle.sense.proofs.meant.fitting_at.Goals as goal

pub loop-n-init : goal.loop-n-init
loop-n-init c = fits_start c.requires.sound c.args.i c.args.j c.requires.i_bound c.run_at-run.ensures

pub deepest-code-requires-clause-n_bound : goal.deepest-code-requires-clause-n_bound
deepest-code-requires-clause-n_bound c = c.loop-n.invariant.within

pub returns-then-fit_at : goal.returns-then-fit_at
returns-then-fit_at c =
    let fits = sym (fit_is c.requires.sound c.args.i c.args.j c.requires.i_bound c.requires.j_bound c.loop-n.n c.deepest-code.ensures.value c.fit_at.ensures) ∙ c.if-fit_at.true in
    (fits_stop c.loop-n.invariant c.loop-n-test.true fits, c.loop-n-test.true)

pub loop-n-preserved : goal.loop-n-preserved
loop-n-preserved c = fits_turn c.loop-n.invariant c.loop-n-test.true (sym (fit_is c.requires.sound c.args.i c.args.j c.requires.i_bound c.requires.j_bound c.loop-n.n c.deepest-code.ensures.value c.fit_at.ensures) ∙ c.if-fit_at.false)

pub returns : goal.returns
returns c = sym (fits_end c.loop-n.invariant (omega (arith, c.loop-n-test.false)))
