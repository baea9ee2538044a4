-- What `first_safe_at` leaves to be shown: place by place, nothing safe at those passed.
use Rattle.std.specs.Prelude.{Some}
use mathlib.Core.Path.{sym, ap, ◌∙◌}
use Rattle.safe.proofs.Passing.{pass_none, pass_empty, pass_unsafe, pass_all, safe_here, top_value_lem}
use Rattle.safe.proofs.first_safe_at.Goals as goal

pub loop-place-init : goal.loop-place-init
loop-place-init c = pass_none _

pub top_at_place-requires : goal.top_at_place-requires
top_at_place-requires c = record { good_cells = c.requires.in_cells; good_columns = c.requires.in_columns; place_bound = c.loop-place-test.true }

pub loop-place-preserved-in_default : goal.loop-place-preserved-in_default
loop-place-preserved-in_default c = pass_empty c.requires c.loop-place.invariant c.loop-place-test.true (sym c.top_at_place.ensures ∙ c.in_default.is)

pub goes_home-requires : goal.goes_home-requires
goes_home-requires c = record { good_piles = c.requires.in_piles; value_value = top_value_lem c.requires c.loop-place-test.true (sym c.top_at_place.ensures ∙ c.in-Some.is) }

pub loop-place-preserved : goal.loop-place-preserved
loop-place-preserved c = pass_unsafe c.requires c.loop-place.invariant c.loop-place-test.true (sym c.top_at_place.ensures ∙ c.in-Some.is) (sym c.goes_home.ensures ∙ c.if-goes_home.false)

pub returns : goal.returns
returns c = sym (pass_all c.loop-place.invariant c.loop-place-test.false)

pub returns-then-goes_home : goal.returns-then-goes_home
returns-then-goes_home c =
    ap Some c.home_move.ensures
    ∙ sym (safe_here c.requires c.loop-place.invariant c.loop-place-test.true (sym c.top_at_place.ensures ∙ c.in-Some.is) (sym c.goes_home.ensures ∙ c.if-goes_home.true))
