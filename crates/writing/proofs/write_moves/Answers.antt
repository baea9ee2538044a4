-- What `write_moves` leaves to be shown: what is written and what is left are the whole text.
use mathlib.Core.Path.{ap, ◌∙◌}
use native.Mathlib.Omega.{arith}
use Rattle.std.specs.Slice.Iter.{chunks_exact_rest, chunks_exact_size}
use Rattle.writing.proofs.Writing.{written_start, written_next, written_turn, written_end}
use Rattle.writing.proofs.write_moves.Goals as goal

pub loop-record-init : goal.loop-record-init
loop-record-init c =
    let gives = c.into_iter-record-iterator.ensures.into_iter_gives in
    record {
      five = ap (λ s. chunks_exact_size s) gives ∙ c.chunks_exact-record-items.ensures.size;
      written = written_start c.requires (ap (λ s. chunks_exact_rest s) gives ∙ c.chunks_exact-record-items.ensures.rest);
    }

pub write_record-to-requires : goal.write_record-to-requires
write_record-to-requires c =
    let turn = c.in-Some.ensures.steps in
    written_next c.requires c.loop-record.invariant.written _ _ turn.1.0 (turn.1.1 ∙ c.loop-record.invariant.five)

pub loop-record-preserved : goal.loop-record-preserved
loop-record-preserved c =
    let turn = c.in-Some.ensures.steps in
    record {
      five = turn.0 ∙ c.loop-record.invariant.five;
      written = written_turn c.requires c.loop-record.invariant.written _ _ turn.1.0 (turn.1.1 ∙ c.loop-record.invariant.five) c.write_record-to.ensures;
    }

pub returns : goal.returns
returns c = written_end c.requires c.loop-record.invariant.written (let h = c.in-None.ensures.steps in let s = c.loop-record.invariant.five in omega arith)
