-- What `read_to` leaves to be shown: move after move, as the line is defined.
use native.Mathlib.Omega.{arith}
use Rattle.reading.proofs.Taking.{took_yes, took_no}
use Rattle.reading.proofs.Cutting.{cut_is, cut_no}
use Rattle.reading.proofs.Passing.{passing_start, passing_never, passing_well, passing_room, passing_turn, passing_stop, passing_end}
use Rattle.reading.proofs.read_to.Goals as goal

pub loop-at-init : goal.loop-at-init
loop-at-init c = passing_start c.requires.list_room_in_bounds c.requires.sound c.requires.few

pub returns-in_default : goal.returns-in_default
returns-in_default c = passing_never c.loop-at.invariant (cut_no c.jot_at.ensures c.in_default.is)

pub take-said-requires : goal.take-said-requires
take-said-requires c = record { sound = c.loop-at.invariant.sound; well_made = passing_well c.loop-at.invariant (cut_is c.jot_at.ensures c.in-Some.is); n_in_bounds = passing_room c.loop-at.invariant (cut_is c.jot_at.ensures c.in-Some.is) }

pub returns-in-Err-clause-read : goal.returns-in-Err-clause-read
returns-in-Err-clause-read c = passing_stop c.loop-at.invariant (cut_is c.jot_at.ensures c.in-Some.is) (took_no c.take-said.ensures c.in-Err.is)

pub loop-at-smaller : goal.loop-at-smaller
loop-at-smaller c = let a = (cut_is c.jot_at.ensures c.in-Some.is).on in let b = (cut_is c.jot_at.ensures c.in-Some.is).within in omega arith

pub loop-at-preserved : goal.loop-at-preserved
loop-at-preserved c = passing_turn c.loop-at.invariant (cut_is c.jot_at.ensures c.in-Some.is) (took_yes c.take-said.ensures c.in_default-said.is)

pub returns-clause-read : goal.returns-clause-read
returns-clause-read c = passing_end c.loop-at.invariant c.loop-at-test.false

pub returns-clause-few : goal.returns-clause-few
returns-clause-few c = let few = c.loop-at.invariant.few in omega arith
