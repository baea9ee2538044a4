-- What `first_unwritable` leaves to be shown: so far each can be written.
use mathlib.Core.Path.{◌≡◌}
use Rattle.std.specs.Iterator.Adapters.{enumerate_source, enumerate_count}
use Rattle.std.specs.Slice.Iter.{chunks_exact_rest, chunks_exact_size}
use Rattle.writing.proofs.Looking.{Looked}
use Rattle.writing.proofs.first_unwritable.Given as goal

abbrev pub invariant-loop-place : goal.invariant-loop-place
invariant-loop-place l =
    record {
      five : chunks_exact_size (enumerate_source l.place-iterator) ≡ 5;
      looked : Looked l.bytes (chunks_exact_rest (enumerate_source l.place-iterator)) (enumerate_count l.place-iterator);
    }
