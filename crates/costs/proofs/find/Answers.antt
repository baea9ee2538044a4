-- What `find` leaves to be shown: the key's place, or that there is none.
use Rattle.costs.proofs.Finding.{part_upper, place_upper, place_lower, finds_place, finds_full}
use Rattle.costs.proofs.find.Goals as goal

pub scan-upper-requires : goal.scan-upper-requires
scan-upper-requires c = part_upper c.requires c.args.k c.home_of-first.result c.home_of-first.ensures

pub returns-then-upper-entries : goal.returns-then-upper-entries
returns-then-upper-entries c = finds_place (place_upper c.requires c.home_of-first.ensures c.scan-upper.ensures c.if-upper-entries.true) c.slot_at.ensures

pub returns-then-lower-first : goal.returns-then-lower-first
returns-then-lower-first c = finds_place (place_lower c.requires c.home_of-first.ensures c.scan-upper.ensures c.if-upper-entries.false c.scan-lower.ensures c.if-lower-first.true) c.slot_at-then-lower-first.ensures

pub returns : goal.returns
returns c = finds_full c.requires c.home_of-first.ensures c.scan-upper.ensures c.if-upper-entries.false c.scan-lower.ensures c.if-lower-first.false
