-- What `corbelnib_season` leaves to be shown: what `season` says and leaves.
use Rattle.corbelnib.proofs.Seasoning.{season_left_lem}
use Rattle.corbelnib.proofs.corbelnib_season.Goals as goal

pub returns : goal.returns
returns c = season_left_lem c.args.partial c.season.ensures c.verdict.ensures
