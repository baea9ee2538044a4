-- What `bear` leaves to be shown: a child is dropped, finds no room, or is born.
use native.Mathlib.Omega.{arith}
use Rattle.children.proofs.Growth.{bear_total, bear_deep, bear_known, bear_full, birth_of, bear_born}
use Rattle.children.proofs.bear.Goals as goal

pub overflow_add-total : goal.overflow_add-total
overflow_add-total c = omega (arith, bear_total c.requires.stands c.requires.playable c.requires.cost_value c.child_to-made.ensures.bears)

pub returns-then-total-gt-MOST_MOVES : goal.returns-then-total-gt-MOST_MOVES
returns-then-total-gt-MOST_MOVES c = bear_deep c.requires.stands c.requires.playable c.requires.cost_value c.child_to-made.ensures.bears c.if-total-gt-MOST_MOVES.true

pub returns-in_default : goal.returns-in_default
returns-in_default c = bear_known c.requires.stands c.requires.playable c.requires.cost_value c.child_to-made.ensures.bears c.signature_at-key.ensures c.choose.ensures c.in_default.is

pub returns-then-room-c : goal.returns-then-room-c
returns-then-room-c c = bear_full c.requires.stands c.requires.playable c.requires.cost_value c.child_to-made.ensures.bears c.signature_at-key.ensures c.choose.ensures c.in-Some.is c.if-total-gt-MOST_MOVES.false c.if-room-c.true

pub birth-requires : goal.birth-requires
birth-requires c = birth_of c.requires.stands c.requires.playable c.requires.cost_value c.child_to-made.ensures.bears c.signature_at-key.ensures c.choose.ensures c.in-Some.is c.if-total-gt-MOST_MOVES.false c.if-room-c.false c.child_to-made.ensures.sound

pub returns : goal.returns
returns c = bear_born c.requires.stands c.requires.playable c.requires.cost_value c.child_to-made.ensures.bears c.signature_at-key.ensures c.choose.ensures c.in-Some.is c.if-total-gt-MOST_MOVES.false c.if-room-c.false c.birth.ensures.wrote c.birth.ensures.value
