-- What `birth` leaves to be shown: all that is written fits.
use native.Mathlib.Omega.{arith}
use Rattle.children.proofs.Hoping.{board_bounded, hope_fits}
use Rattle.children.proofs.Births.{birth_sum}
use Rattle.children.proofs.birth.Goals as goal

pub heuristic_key-hope-requires : goal.heuristic_key-hope-requires
heuristic_key-hope-requires c = board_bounded c.requires.sound c.compute_features-f.ensures

pub overflow_add-sum : goal.overflow_add-sum
overflow_add-sum c = omega (arith, birth_sum c.requires c.compute_features-f.ensures c.heuristic_key-hope.ensures)

pub pack-waits-requires-clause-hope_bound : goal.pack-waits-requires-clause-hope_bound
pack-waits-requires-clause-hope_bound c = hope_fits c.requires.sound c.compute_features-f.ensures c.heuristic_key-hope.ensures

pub pack-waits-requires-clause-sum_bound : goal.pack-waits-requires-clause-sum_bound
pack-waits-requires-clause-sum_bound c = birth_sum c.requires c.compute_features-f.ensures c.heuristic_key-hope.ensures

pub progress_key-requires : goal.progress_key-requires
progress_key-requires c = board_bounded c.requires.sound c.compute_features-f.ensures
