-- What `put_records` leaves to be shown: record after record.
use mathlib.Core.Path.{◌≡◌}
use Rattle.std.specs.Iterator.Adapters.{take_source, take_count}
use Rattle.std.specs.Slice.Iter.{chunks_exact_rest, chunks_exact_size}
use Rattle.onetext.proofs.Lining.{Recorded}
use Rattle.onetext.proofs.write.put_records.Given as goal

abbrev pub invariant-loop-record : goal.invariant-loop-record
invariant-loop-record l =
    (chunks_exact_size (take_source l.record-iterator) ≡ 5)
    × Recorded l.initial.out l.out l.list l.n l.at l.to (chunks_exact_rest (take_source l.record-iterator)) (take_count l.record-iterator)
