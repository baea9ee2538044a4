-- What `first_unwritable` leaves to be shown: so far each can be written.
use mathlib.Core.Path.{ap, ◌∙◌}
use native.Mathlib.Omega.{arith}
use Rattle.std.specs.Iterator.Adapters.{enumerate_source, enumerate_count}
use Rattle.std.specs.Slice.Iter.{chunks_exact_rest, chunks_exact_size}
use Rattle.writing.proofs.Looking.{looked_start, looked_turn, looked_stop, looked_end}
use Rattle.writing.proofs.first_unwritable.Goals as goal

pub loop-place-init : goal.loop-place-init
loop-place-init c =
    let gives = c.into_iter-place-iterator.ensures.into_iter_gives in
    let source = ap (λ s. enumerate_source s) gives ∙ c.enumerate-place-items.ensures.source in
    record {
      five = ap (λ s. chunks_exact_size s) source ∙ c.chunks_exact.ensures.size;
      looked = looked_start c.args.bytes.now (ap (λ s. chunks_exact_rest s) source ∙ c.chunks_exact.ensures.rest) (ap (λ s. enumerate_count s) gives ∙ c.enumerate-place-items.ensures.count);
    }

pub returns-then-not-is_writable : goal.returns-then-not-is_writable
returns-then-not-is_writable c =
    let turn = c.in-Some.ensures.steps in
    looked_stop c.loop-place.invariant.looked _ _ turn.0.1.0 (turn.0.1.1 ∙ c.loop-place.invariant.five) c.is_writable.ensures c.if-not-is_writable.true turn.1

pub loop-place-preserved : goal.loop-place-preserved
loop-place-preserved c =
    let turn = c.in-Some.ensures.steps in
    record {
      five = turn.0.0 ∙ c.loop-place.invariant.five;
      looked = looked_turn c.loop-place.invariant.looked _ _ turn.0.1.0 (turn.0.1.1 ∙ c.loop-place.invariant.five) c.is_writable.ensures c.if-not-is_writable.false turn.2;
    }

pub returns : goal.returns
returns c = looked_end c.loop-place.invariant.looked (let h = c.in-None.ensures.steps in let s = c.loop-place.invariant.five in omega arith)
