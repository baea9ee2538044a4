-- What `candidates_at` leaves to be shown: what is tried is ranked, and copied in that order.
use native.Mathlib.Omega.{arith}
use Rattle.ordered.proofs.Ordering.{few_tried, holds-tried, names_tried, adds_candidates}
use Rattle.ordered.proofs.candidates_at.Goals as goal

pub rank_all-requires : goal.rank_all-requires
rank_all-requires c = record { holds = holds-tried c.requires.sound c.tried_at-n.ensures (omega arith); before_value = c.compute_features-before.ensures; n_in_bounds = omega (arith, few_tried c.requires.sound c.tried_at-n.ensures); n_bound = omega (arith, few_tried c.requires.sound c.tried_at-n.ensures) }

pub emit-requires : goal.emit-requires
emit-requires c = record { records = (holds-tried c.requires.sound c.tried_at-n.ensures (omega arith)).records; names = names_tried c.requires.sound c.tried_at-n.ensures (omega arith) _ c.rank_all.ensures; n_in_bounds = omega (arith, few_tried c.requires.sound c.tried_at-n.ensures, c.requires.tried_room_in_bounds) }

pub returns : goal.returns
returns c = adds_candidates c.requires.sound c.tried_at-n.ensures (omega arith) _ c.rank_all.ensures c.emit.ensures
