-- What `seed` leaves to be shown: the root is written into blank memory.
use native.Mathlib.Omega.{arith}
use Rattle.memory.proofs.Starting.{blank_table}
use Rattle.children.proofs.Hoping.{board_bounded, hope_fits}
use Rattle.turns.proofs.Seeding.{seeded}
use Rattle.turns.proofs.seed.Goals as goal

pub heuristic_key-hope-requires : goal.heuristic_key-hope-requires
heuristic_key-hope-requires c = board_bounded c.requires.sound c.compute_features-f.ensures

pub store-requires-clause-table : goal.store-requires-clause-table
store-requires-clause-table c = blank_table c.requires.blank

pub pack-requires-clause-hope_bound : goal.pack-requires-clause-hope_bound
pack-requires-clause-hope_bound c = hope_fits c.requires.sound c.compute_features-f.ensures c.heuristic_key-hope.ensures

pub pack-requires-clause-sum_bound : goal.pack-requires-clause-sum_bound
pack-requires-clause-sum_bound c = omega (arith, hope_fits c.requires.sound c.compute_features-f.ensures c.heuristic_key-hope.ensures)

pub progress_key-requires : goal.progress_key-requires
progress_key-requires c = board_bounded c.requires.sound c.compute_features-f.ensures

pub returns : goal.returns
returns c = seeded c.requires.blank c.requires.sound c.compute_features-f.ensures c.heuristic_key-hope.ensures c.signature_at-key.ensures c.first_slot-slot.ensures c.set_root.ensures c.store.ensures c.pack.ensures c.put.ensures c.progress_key.ensures
