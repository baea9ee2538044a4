-- What `check` leaves to be shown: each sign leads on, ends a move, or is wrong.
use Rattle.notation.proofs.Checking.{no_text, checks_start, checks_on, checks_ends, checks_stop, checks_end, checks_same}
use mathlib.Core.Path.{sym, ◌∙◌}
use native.Mathlib.Omega.{arith}
use Rattle.std.proofs.lemmas.Bool.Decides.{nat_tests}
use Rattle.notation.proofs.form.check.Goals as goal
use Rattle.notation.proofs.form.check.Goals.{in-On, in-Ends}

pub returns-then-is_empty : goal.returns-then-is_empty
returns-then-is_empty c = no_text _ (grind (arith, nat_tests))

pub loop-place-init : goal.loop-place-init
loop-place-init c = checks_start _ (grind (arith, nat_tests))

pub returns-in-Wrong : goal.returns-in-Wrong
returns-in-Wrong c = sym (checks_stop c.loop-place.invariant c.loop-place-test.true (sym c.step_from.ensures ∙ c.in-Wrong.is))

pub loop-place-preserved : goal.loop-place-preserved
loop-place-preserved c =
    let turn = c.loop-place.invariant in
    let more = c.loop-place-test.true in
    let step = sym c.step_from.ensures in
    elim c.match-step_from.branch [
      | in-On w ↦ checks_same w.due-is w.moves-is (checks_on turn more (step ∙ w.in-On.is))
      | in-Ends w ↦ checks_same w.due-is w.moves-is (checks_ends turn more (step ∙ w.in-Ends.is))
    ]

pub returns : goal.returns
returns c = c.at_end.ensures ∙ sym (checks_end c.loop-place.invariant c.loop-place-test.false)
