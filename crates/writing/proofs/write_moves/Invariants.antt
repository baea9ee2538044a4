-- What `write_moves` leaves to be shown: what is written and what is left are the whole text.
use mathlib.Core.Path.{◌≡◌}
use Rattle.std.specs.Slice.Iter.{chunks_exact_rest, chunks_exact_size}
use Rattle.board.specs.Record.{laid}
use Rattle.writing.proofs.Writing.{Written}
use Rattle.writing.proofs.write_moves.Given as goal

abbrev pub invariant-loop-record : goal.invariant-loop-record
invariant-loop-record l =
    record {
      five : chunks_exact_size l.record-iterator ≡ 5;
      written : Written l.bytes (laid l.initial.cells l.initial.foundation l.initial.counts l.initial.tableau) (laid l.cells l.foundation l.counts l.tableau) l.initial.text l.text (chunks_exact_rest l.record-iterator) l.to;
    }
