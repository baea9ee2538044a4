-- What `chain_to` leaves to be shown: the moves made, then what is left of the chain.
use mathlib.Core.Path.{◌≡◌, sym, subst, ◌∙◌}
use Rattle.safe.specs.Asked.{Runs}
use native.Mathlib.Omega.{arith}
use Rattle.safe.proofs.Handing.{chaining_start, chain_ready, chaining_turn, chaining_stop, chaining_full}
use Rattle.safe.proofs.chain_to.Goals as goal

pub loop-moves-init : goal.loop-moves-init
loop-moves-init c = chaining_start c.requires

pub first_safe_at-requires : goal.first_safe_at-requires
first_safe_at-requires c = c.loop-moves.invariant.sound

pub apply_to-requires : goal.apply_to-requires
apply_to-requires c = chain_ready c.loop-moves.invariant.sound (sym c.first_safe_at.ensures ∙ c.in-Some.is)

pub loop-moves-preserved : goal.loop-moves-preserved
loop-moves-preserved c = chaining_turn c.loop-moves.invariant (omega (arith, c.loop-moves-test.true)) (sym c.first_safe_at.ensures ∙ c.in-Some.is) c.apply_to.ensures

pub returns : goal.returns
returns c = let e : c.loop-moves.moves ≡ 52 = omega (arith, c.loop-moves-test.false, c.loop-moves.invariant.upto) in subst (Runs _ _) e (chaining_full c.loop-moves.invariant (omega (arith, c.loop-moves-test.false)))

pub returns-in_default : goal.returns-in_default
returns-in_default c = chaining_stop c.loop-moves.invariant (sym c.first_safe_at.ensures ∙ c.in_default.is)
