-- What `deck_of` leaves to be shown: a card at each turn, and the pack that is left.
use mathlib.Core.Path.{refl}
use native.Mathlib.Omega.{arith}
use Rattle.shuffle.proofs.Drawing.{draw_begin, draw_next, draw_end}
use Rattle.shuffle.proofs.deck_of.Goals as goal

pub loop-dealt-init : goal.loop-dealt-init
loop-dealt-init c = draw_begin refl c.whole_pack-pack.ensures c.requires

pub loop-dealt-preserved : goal.loop-dealt-preserved
loop-dealt-preserved c = draw_next c.loop-dealt.invariant (omega (arith, c.loop-dealt.invariant.deck52)) c.step-state.ensures c.draw.ensures

pub returns : goal.returns
returns c = draw_end c.loop-dealt.invariant (omega (arith, c.loop-dealt.invariant.deck52))
