-- What `put_hand` leaves to be shown: the token, a newline, the answer.
use native.Mathlib.Omega.{arith}
use Rattle.intake.proofs.Accepted.{fine_sound}
use Rattle.onetext.proofs.Telling.{small, short, first-room, next_room, hand_puts}
use Rattle.onetext.proofs.put_hand.Goals as goal

pub compute_features-f-requires : goal.compute_features-f-requires
compute_features-f-requires c = fine_sound c.requires.fine

pub token_at-token-requires-clause-bounded : goal.token_at-token-requires-clause-bounded
token_at-token-requires-clause-bounded c = small c.requires.fine c.compute_features-f.ensures

pub token_at-token-requires-clause-f_in_bounds : goal.token_at-token-requires-clause-f_in_bounds
token_at-token-requires-clause-f_in_bounds c = omega (arith, short c.requires.fine c.compute_features-f.ensures, c.requires.in_bounds)

pub put_bytes-after-requires : goal.put_bytes-after-requires
put_bytes-after-requires c = first-room c.requires.fine c.compute_features-f.ensures c.requires.in_bounds c.token_at-token.ensures

pub put_answer-requires-clause-at_in_bounds : goal.put_answer-requires-clause-at_in_bounds
put_answer-requires-clause-at_in_bounds c = next_room c.requires.fine c.compute_features-f.ensures c.requires.in_bounds c.token_at-token.ensures c.put_bytes-after.ensures

pub returns : goal.returns
returns c = hand_puts c.requires.fine c.compute_features-f.ensures c.requires.in_bounds c.token_at-token.ensures c.put_bytes-after.ensures c.put_answer.ensures
