-- What `write_step` leaves to be shown: the move is written and played, and then the chain.
use Rattle.nodes.proofs.Walking.{step_is, step_never, step_goes}
use Rattle.candidates.proofs.Bearing.{next_sound}
use Rattle.lines.proofs.Telling.{first-room, rest_room, step_writes}
use Rattle.lines.proofs.write_step.Goals as goal

pub returns-in_default : goal.returns-in_default
returns-in_default c = absurd (step_never c.requires.sound c.requires.makes c.move_in.ensures c.in_default.is)

pub write-first-requires-clause-m_value : goal.write-first-requires-clause-m_value
write-first-requires-clause-m_value c = (step_goes c.requires.sound c.requires.makes c.move_in.ensures c.in-Some.is).said

pub write-first-requires-clause-n_in_bounds : goal.write-first-requires-clause-n_in_bounds
write-first-requires-clause-n_in_bounds c = first-room _ _ _ c.args.list.now (step_is c.requires.sound c.requires.makes c.move_in.ensures c.in-Some.is) c.requires.step_in_bounds

pub apply_at-next-requires : goal.apply_at-next-requires
apply_at-next-requires c = step_goes c.requires.sound c.requires.makes c.move_in.ensures c.in-Some.is

pub write_chain-requires-clause-b_in_bounds : goal.write_chain-requires-clause-b_in_bounds
write_chain-requires-clause-b_in_bounds c = rest_room _ _ _ _ (step_is c.requires.sound c.requires.makes c.move_in.ensures c.in-Some.is) c.requires.step_in_bounds c.write-first.ensures c.apply_at-next.ensures

pub write_chain-requires-clause-sound : goal.write_chain-requires-clause-sound
write_chain-requires-clause-sound c = next_sound (step_goes c.requires.sound c.requires.makes c.move_in.ensures c.in-Some.is) c.apply_at-next.ensures

pub returns : goal.returns
returns c = step_writes _ _ _ _ (step_is c.requires.sound c.requires.makes c.move_in.ensures c.in-Some.is) c.requires.step_in_bounds c.write-first.ensures c.apply_at-next.ensures c.write_chain.ensures
