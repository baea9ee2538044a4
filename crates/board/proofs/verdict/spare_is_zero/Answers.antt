-- What `spare_is_zero` leaves to be shown: a checking loop over the eight columns' unused room.
use mathlib.Core.Path.{sym, ap, ◌∙◌}
use mathlib.Core.Bool.{Bool}
use mathlib.Core.List.{List}
use Prim.Native.Nat.{ℕ}
use native.Mathlib.Omega.{arith}
use Rattle.base.specs.Words.{all}
use Rattle.base.proofs.Words.{every_none, every_more, every_end, every_fails}
use Rattle.board.specs.Record.{room, is_zero, spare_at}
use Rattle.board.proofs.Tables.{spare_is, at_most_lem}
use borrow.Author.Rules.{rules}
use Rattle.board.proofs.verdict.spare_is_zero.Goals as goal

abbrev here : List ℕ → List ℕ → ℕ → Bool
here counts tableau k = all is_zero (spare_at counts tableau k)

pub loop-i-init : goal.loop-i-init
loop-i-init c = (search rules, every_none (here c.args.counts.now c.args.tableau.now))

pub bounds-counts-i : goal.bounds-counts-i
bounds-counts-i c = omega (arith, c.requires.counts_len)

pub overflow_add-start : goal.overflow_add-start
overflow_add-start c = omega (arith, c.from.ensures, at_most_lem room c.args.counts.now c.requires.counts_value c.loop-i.i (omega (arith, c.requires.counts_len)))

pub slice_bounds-within-count : goal.slice_bounds-within-count
slice_bounds-within-count c = omega (arith, c.from.ensures, at_most_lem room c.args.counts.now c.requires.counts_value c.loop-i.i (omega (arith, c.requires.counts_len)))

pub slice_bounds-within-start : goal.slice_bounds-within-start
slice_bounds-within-start c = omega (arith, c.from.ensures, at_most_lem room c.args.counts.now c.requires.counts_value c.loop-i.i (omega (arith, c.requires.counts_len)))

pub slice_bounds-within-end : goal.slice_bounds-within-end
slice_bounds-within-end c = omega (arith, c.requires.tableau_len)

pub returns-then-not-within : goal.returns-then-not-within
returns-then-not-within c = sym (every_fails (here c.args.counts.now c.args.tableau.now) 8 c.loop-i.i c.loop-i-test.true (sym (c.within.ensures ∙ ap (all is_zero) (spare_is c.args.counts.now c.args.tableau.now c.loop-i.i c.from.result c.from.ensures)) ∙ c.if-not-within.true))

pub loop-i-preserved : goal.loop-i-preserved
loop-i-preserved c =
    (search rules, every_more (here c.args.counts.now c.args.tableau.now) c.loop-i.i c.loop-i.invariant.1 (sym (c.within.ensures ∙ ap (all is_zero) (spare_is c.args.counts.now c.args.tableau.now c.loop-i.i c.from.result c.from.ensures)) ∙ c.if-not-within.false))

pub returns : goal.returns
returns c = sym (every_end (here c.args.counts.now c.args.tableau.now) 8 c.loop-i.i c.loop-i.invariant.1 c.loop-i-test.false)
