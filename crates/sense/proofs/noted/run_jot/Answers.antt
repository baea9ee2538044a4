-- What `run_jot` leaves to be shown: fewer than the most into an empty column; the most, or onto other cards.
use Rattle.sense.proofs.Noting.{onto_jot, few_jot, most_jot}
use Rattle.sense.proofs.noted.run_jot.Goals as goal
use Rattle.sense.proofs.noted.run_jot.Goals.{else-counts-destination-eq0-via-then-counts-destination-eq0+else-count-most_into, else-counts-destination-eq0-via-else-counts-destination-eq0}

pub returns-then-count-most_into : goal.returns-then-count-most_into
returns-then-count-most_into c = λ k. few_jot c.requires.sound c.args.source c.args.destination c.args.count c.requires.destination_bound k c.if-counts-destination-eq0.true c.most_into.ensures c.if-count-most_into.true

pub returns-else-counts-destination-eq0 : goal.returns-else-counts-destination-eq0
returns-else-counts-destination-eq0 c =
    λ k.
    elim c.else-counts-destination-eq0.branch [
      | else-counts-destination-eq0-via-then-counts-destination-eq0+else-count-most_into w ↦
          most_jot c.requires.sound c.args.source c.args.destination c.args.count c.requires.destination_bound k w.if-counts-destination-eq0.true w.most_into.ensures w.if-count-most_into.false
      | else-counts-destination-eq0-via-else-counts-destination-eq0 w ↦
          onto_jot c.requires.sound c.args.source c.args.destination c.args.count c.requires.destination_bound k w.if-counts-destination-eq0.false
    ]
