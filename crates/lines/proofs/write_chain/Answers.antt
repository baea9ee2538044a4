-- What `write_chain` leaves to be shown: the moves passed are written and played, then what is left of the chain.
use mathlib.Core.Path.{sym, ◌∙◌}
use native.Mathlib.Omega.{arith}
use Rattle.safe.proofs.Handing.{chain_ready}
use Rattle.lines.proofs.Telling.{going_start, going_room, going_turn, going_stop, going_full}
use Rattle.lines.proofs.write_chain.Goals as goal

pub loop-init : goal.loop-init
loop-init c = going_start _ _ c.requires.sound

pub write-records-requires-clause-m_value : goal.write-records-requires-clause-m_value
write-records-requires-clause-m_value c = (chain_ready c.loop.invariant.sound (sym c.first_safe_at.ensures ∙ c.in-Some.is)).said

pub write-records-requires-clause-n_in_bounds : goal.write-records-requires-clause-n_in_bounds
write-records-requires-clause-n_in_bounds c = going_room c.requires.b_in_bounds c.loop.invariant (omega (arith, c.loop-test.true)) (sym c.first_safe_at.ensures ∙ c.in-Some.is)

pub apply_at-board-requires : goal.apply_at-board-requires
apply_at-board-requires c = chain_ready c.loop.invariant.sound (sym c.first_safe_at.ensures ∙ c.in-Some.is)

pub loop-preserved : goal.loop-preserved
loop-preserved c = going_turn c.requires.b_in_bounds c.loop.invariant (omega (arith, c.loop-test.true)) (sym c.first_safe_at.ensures ∙ c.in-Some.is) c.write-records.ensures c.apply_at-board.ensures

pub returns-after-loop : goal.returns-after-loop
returns-after-loop c = going_full c.requires.b_in_bounds c.loop.invariant (omega (arith, c.loop-test.false))

pub returns-in_default : goal.returns-in_default
returns-in_default c = going_stop c.requires.b_in_bounds c.loop.invariant (sym c.first_safe_at.ensures ∙ c.in_default.is)
