-- What `expand` leaves to be shown: the candidates are written, and read one by one.
use native.Mathlib.Omega.{arith}
use Rattle.board.specs.Record.{shown}
use Rattle.candidates.proofs.Trying.{all-candidates, most_candidates}
use Rattle.candidates.proofs.Listing.{holds-written, moves_written}
use Rattle.board.proofs.Fair.{shows_fair}
use Rattle.children.proofs.expand.Goals as goal

pub bear_all-requires-clause-n_value : goal.bear_all-requires-clause-n_value
bear_all-requires-clause-n_value c = moves_written c.candidates_at-n.ensures

pub bear_all-requires-clause-records : goal.bear_all-requires-clause-records
bear_all-requires-clause-records c = (holds-written c.candidates_at-n.ensures c.requires.stands.sound (all-candidates (shown c.args.b) (shows_fair c.requires.stands.sound)) (omega (arith, most_candidates (shown c.args.b)))).records
