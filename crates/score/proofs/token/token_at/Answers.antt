-- What `token_at` leaves to be shown: the seven parts one after the other.
use native.Mathlib.Omega.{arith}
use Rattle.score.specs.Token.{parts, token_of}
use Rattle.score.proofs.Digits.{token_long}
use Rattle.base.proofs.Putting.{reach_start, reach_next}
use borrow.Author.Rules.{rules}
use Rattle.score.proofs.token.token_at.Goals as goal

pub put-home-requires : goal.put-home-requires
put-home-requires c = record { n_bound = omega arith; n_in_bounds = omega (arith, token_long c.args.f) }

pub put-immediate-requires : goal.put-immediate-requires
put-immediate-requires c = record { n_bound = omega arith; n_in_bounds = omega (arith, token_long c.args.f) }

pub put-used-requires : goal.put-used-requires
put-used-requires c = record { n_bound = omega arith; n_in_bounds = omega (arith, token_long c.args.f) }

pub put-empty-requires : goal.put-empty-requires
put-empty-requires c = record { n_bound = omega arith; n_in_bounds = omega (arith, token_long c.args.f) }

pub put-longest-requires : goal.put-longest-requires
put-longest-requires c = record { n_bound = omega arith; n_in_bounds = omega (arith, token_long c.args.f) }

pub put-blocked-requires : goal.put-blocked-requires
put-blocked-requires c = record { n_bound = omega (arith, c.requires.bounded); n_in_bounds = omega (arith, c.requires.f_in_bounds, token_long c.args.f) }

pub put-requires : goal.put-requires
put-requires c = record { n_bound = omega (arith, c.requires.bounded); n_in_bounds = omega (arith, c.requires.f_in_bounds, token_long c.args.f, c.out-1.given, c.put-home.ensures.after) }

pub returns : goal.returns
unfolding token_of
returns c = (reach_next 6 (search rules) (reach_next 5 (search rules) (reach_next 4 (search rules) (reach_next 3 (search rules) (reach_next 2 (search rules) (reach_next 1 (search rules) (reach_next 0 (search rules) (reach_start (parts c.args.f) c.args.out.now c.requires.f_in_bounds) c.put-home.ensures) c.put-immediate.ensures) c.put-used.ensures) c.put-empty.ensures) c.put-longest.ensures) c.put-blocked.ensures) c.put.ensures).puts
