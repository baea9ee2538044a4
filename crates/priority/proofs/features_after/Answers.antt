-- What `features_after` leaves to be shown: the board after the move is sound.
use Rattle.priority.proofs.After.{sound_then, features_then, bounded_then}
use Rattle.priority.proofs.features_after.Goals as goal

pub compute_features-requires : goal.compute_features-requires
compute_features-requires c = sound_then c.requires c.apply_to.ensures

pub returns : goal.returns
returns c = record { value = features_then c.requires c.apply_to.ensures c.compute_features.ensures; bounded = bounded_then c.requires c.apply_to.ensures c.compute_features.ensures }
