-- What `child_to` leaves to be shown: the board after the move is sound, and the chain is played on it.
use native.Mathlib.Omega.{arith}
use Rattle.candidates.proofs.Bearing.{next_sound, few_moves, bears}
use Rattle.candidates.proofs.child_to.Goals as goal

pub apply_to-requires : goal.apply_to-requires
apply_to-requires c = c.requires

pub chain_to-after-requires : goal.chain_to-after-requires
chain_to-after-requires c = next_sound c.requires c.apply_to.ensures

pub overflow_add-moves : goal.overflow_add-moves
overflow_add-moves c = omega (arith, few_moves c.requires c.apply_to.ensures c.chain_to-after.ensures)

pub returns : goal.returns
returns c = record { bears = bears c.requires c.apply_to.ensures c.chain_to-after.ensures; sound = c.chain_to-after.ensures.sound }
