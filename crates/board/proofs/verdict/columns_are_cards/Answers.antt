-- What `columns_are_cards` leaves to be shown: a checking loop over the eight parts.
use mathlib.Core.Path.{sym, ap, ◌∙◌}
use mathlib.Core.Bool.{Bool}
use mathlib.Core.List.{List}
use Prim.Native.Nat.{ℕ}
use native.Mathlib.Omega.{arith}
use Rattle.base.specs.Words.{all}
use Rattle.card.specs.Card.{is_card}
use Rattle.base.proofs.Words.{every_none, every_more, every_end, every_fails, all-concat}
use Rattle.board.specs.Inner.{part_at}
use Rattle.board.proofs.Tables.{part_is}
use borrow.Author.Rules.{rules}
use Rattle.board.proofs.verdict.columns_are_cards.Goals as goal

abbrev here : List ℕ → List ℕ → List ℕ → ℕ → Bool
here starts counts codes k = all is_card (part_at starts counts codes k)

pub loop-i-init : goal.loop-i-init
loop-i-init c =
    (search rules, every_none (here c.args.starts.now c.args.counts.now c.args.codes.now))

pub bounds-starts-i : goal.bounds-starts-i
bounds-starts-i c = omega (arith, c.requires.starts8)

pub bounds-counts-i : goal.bounds-counts-i
bounds-counts-i c = omega (arith, c.requires.counts8)

pub overflow_add-end : goal.overflow_add-end
overflow_add-end c = omega (arith, c.from.ensures, c.requires.within c.loop-i.i c.loop-i-test.true)

pub slice_bounds-are_cards-end : goal.slice_bounds-are_cards-end
slice_bounds-are_cards-end c = omega (arith, c.from.ensures, c.requires.within c.loop-i.i c.loop-i-test.true)

pub returns-then-not-are_cards : goal.returns-then-not-are_cards
returns-then-not-are_cards c =
    let f = here c.args.starts.now c.args.counts.now c.args.codes.now in
    sym (all-concat is_card (part_at c.args.starts.now c.args.counts.now c.args.codes.now) 8
    ∙ every_fails f 8 c.loop-i.i c.loop-i-test.true (sym (c.are_cards.ensures ∙ ap (all is_card) (part_is c.args.starts.now c.args.counts.now c.args.codes.now c.loop-i.i c.from.result c.from.ensures)) ∙ c.if-not-are_cards.true))

pub loop-i-preserved : goal.loop-i-preserved
loop-i-preserved c =
    (search rules, every_more (here c.args.starts.now c.args.counts.now c.args.codes.now) c.loop-i.i c.loop-i.invariant.1 (sym (c.are_cards.ensures ∙ ap (all is_card) (part_is c.args.starts.now c.args.counts.now c.args.codes.now c.loop-i.i c.from.result c.from.ensures)) ∙ c.if-not-are_cards.false))

pub returns : goal.returns
returns c =
    let f = here c.args.starts.now c.args.counts.now c.args.codes.now in
    sym (all-concat is_card (part_at c.args.starts.now c.args.counts.now c.args.codes.now) 8 ∙ every_end f 8 c.loop-i.i c.loop-i.invariant.1 c.loop-i-test.false)
