-- What `compute_features` leaves to be shown: the seven features one by one.
use Rattle.features.proofs.Measured.{features_are}
use Rattle.board.specs.Record.{laid}
use Rattle.features.proofs.compute_features.Goals as goal

pub returns : goal.returns
returns c = features_are (laid c.args.cells.now c.args.foundation.now c.args.counts.now c.args.tableau.now) c.total_at.ensures c.immediate_foundation_count.ensures c.blocked_low_penalty.ensures c.foundation_imbalance.ensures c.free_cells_used.ensures c.empty_columns_at.ensures c.longest_run_length.ensures
