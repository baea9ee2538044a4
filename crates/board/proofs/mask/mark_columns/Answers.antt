-- What `mark_columns` leaves to be shown: a loop over the eight parts.
use mathlib.Core.Path.{◌≡◌, sym, ◌∙◌, subst}
use mathlib.Core.List.{List}
use Prim.Native.Nat.{ℕ, ◌<◌}
use native.Mathlib.Omega.{arith}
use Rattle.base.specs.Words.{listed, concat}
use Rattle.board.specs.Inner.{Marks}
use Rattle.board.proofs.Marks.{pass_none, pass_more, pass_stop, pass_end}
use mathlib.Core.Bool.{true}
use Rattle.base.specs.Words.{all}
use Rattle.card.specs.Card.{is_card}
use Rattle.base.proofs.Words.{all-concat, every_at}
use Rattle.board.specs.Inner.{part_at}
use Rattle.board.proofs.Tables.{part_is}
use Rattle.board.proofs.mask.mark_columns.Goals as goal

part-cards : (f : ℕ → List ℕ) (i : ℕ) → i < 8 → all is_card (concat (listed 8 f)) ≡ true → all is_card (f i) ≡ true
part-cards f i h e = every_at (λ k. all is_card (f k)) 8 (sym (all-concat is_card f 8) ∙ e) i h

pub loop-i-init : goal.loop-i-init
loop-i-init c = pass_none _ _ c.requires.seen_bound

pub bounds-starts-i : goal.bounds-starts-i
bounds-starts-i c = omega (arith, c.requires.parts.starts8)

pub bounds-counts-i : goal.bounds-counts-i
bounds-counts-i c = omega (arith, c.requires.parts.counts8)

pub overflow_add-end : goal.overflow_add-end
overflow_add-end c = omega (arith, c.from.ensures, c.requires.parts.within c.loop-i.i c.loop-i-test.true)

pub slice_bounds-mark_all-end : goal.slice_bounds-mark_all-end
slice_bounds-mark_all-end c = omega (arith, c.from.ensures, c.requires.parts.within c.loop-i.i c.loop-i-test.true)

pub mark_all-requires : goal.mark_all-requires
mark_all-requires c =
    let a = c.args in record {
      seen_bound = c.loop-i.invariant.marks.below;
      s_value = subst (λ (l : List ℕ). all is_card l ≡ true) (sym (part_is a.starts.now a.counts.now a.codes.now c.loop-i.i c.from.result c.from.ensures))
          (part-cards (part_at a.starts.now a.counts.now a.codes.now) c.loop-i.i c.loop-i-test.true c.requires.codes_value);
    }

pub returns-in_err-cards : goal.returns-in_err-cards
returns-in_err-cards c = rw c.from_residual.ensures (let a = c.args in
    pass_stop _ _ c.loop-i.invariant c.loop-i-test.true
    (subst (λ (l : List ℕ). Marks c.loop-i.cards l c.mark_all.result) (part_is a.starts.now a.counts.now a.codes.now c.loop-i.i c.from.result c.from.ensures) c.mark_all.ensures)
    c.in_err-cards.was)

pub loop-i-preserved : goal.loop-i-preserved
loop-i-preserved c =
    let a = c.args in
    pass_more _ _ c.loop-i.invariant c.loop-i-test.true
    (subst (λ (l : List ℕ). Marks c.loop-i.cards l c.mark_all.result) (part_is a.starts.now a.counts.now a.codes.now c.loop-i.i c.from.result c.from.ensures) c.mark_all.ensures)
    c.in_ok-cards.was

pub returns : goal.returns
returns c = pass_end _ _ c.loop-i.invariant c.loop-i-test.false
