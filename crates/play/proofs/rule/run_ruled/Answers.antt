-- What `run_ruled` leaves to be shown: test by test, in the order of the causes.
use mathlib.Core.Path.{◌≡◌, sym, subst}
use mathlib.Core.Bool.{true}
use Prim.Native.Nat.{ℕ}
use native.Mathlib.Omega.{arith}
use borrow.Author.Tests.{ltb-true}
use Rattle.card.specs.Card.{is_card}
use Rattle.card.proofs.Codes.{code_is_card}
use Rattle.moves.proofs.Records.{said_from, said_to, said_count, said_value}
use Rattle.play.proofs.Running.{own_column_lem, none_lie, too_many_lem, other_card_lem, over_limit_lem, no_run_lem, run_lands}
use Rattle.board.specs.Record.{laid}
use Rattle.play.proofs.rule.run_ruled.Goals as goal

pub returns-then-source-destination : goal.returns-then-source-destination
returns-then-source-destination c = let b = laid c.args.cells.now c.args.foundation.now c.args.counts.now c.args.tableau.now in
    own_column_lem b c.args.source c.args.destination c.args.count c.args.card c.requires.sound c.requires.card_value c.if-source-destination.true

pub bounds-counts-source : goal.bounds-counts-source
bounds-counts-source c = ltb-true c.args.source 8 (said_from _ c.requires.card_value)

pub returns-then-lie-eq0 : goal.returns-then-lie-eq0
returns-then-lie-eq0 c = let b = laid c.args.cells.now c.args.foundation.now c.args.counts.now c.args.tableau.now in
    none_lie b c.args.source c.args.destination c.args.count c.args.card c.requires.sound c.requires.card_value c.if-source-destination.false c.from-lie.result c.from-lie.ensures c.if-lie-eq0.true

pub returns-then-lie-count : goal.returns-then-lie-count
returns-then-lie-count c = let b = laid c.args.cells.now c.args.foundation.now c.args.counts.now c.args.tableau.now in
    too_many_lem b c.args.source c.args.destination c.args.count c.args.card c.requires.sound c.requires.card_value c.if-source-destination.false c.from-lie.result c.from-lie.ensures c.if-lie-eq0.false c.if-lie-count.true

pub overflow_mul-first : goal.overflow_mul-first
overflow_mul-first c = omega (arith, ltb-true c.args.source 8 (said_from _ c.requires.card_value))

pub overflow_add-deepest : goal.overflow_add-deepest
overflow_add-deepest c = omega (arith, ltb-true c.args.source 8 (said_from _ c.requires.card_value), c.from-lie.ensures, c.requires.sound.in_columns.within c.args.source (ltb-true c.args.source 8 (said_from _ c.requires.card_value)))

pub code_of-code-requires : goal.code_of-code-requires
code_of-code-requires c = said_value _ c.requires.card_value

pub bounds-tableau-deepest : goal.bounds-tableau-deepest
bounds-tableau-deepest c = omega (arith, ltb-true c.args.source 8 (said_from _ c.requires.card_value), c.from-lie.ensures, c.requires.sound.in_columns.within c.args.source (ltb-true c.args.source 8 (said_from _ c.requires.card_value)), c.requires.sound.in_columns.full, said_count _ c.requires.card_value)

pub returns-then-tableau-deepest : goal.returns-then-tableau-deepest
returns-then-tableau-deepest c = let b = laid c.args.cells.now c.args.foundation.now c.args.counts.now c.args.tableau.now in
    other_card_lem b c.args.source c.args.destination c.args.count c.args.card c.requires.sound c.requires.card_value c.if-source-destination.false c.from-lie.result c.from-lie.ensures c.if-lie-eq0.false c.if-lie-count.false c.code_of-code.ensures c.if-tableau-deepest.true

pub most_at-requires : goal.most_at-requires
most_at-requires c = record { good_cells = c.requires.sound.in_cells; good_columns = c.requires.sound.in_columns; to_bound = omega (arith, ltb-true c.args.source 8 (said_from _ c.requires.card_value), ltb-true c.args.destination 8 (said_to _ c.requires.card_value)) }

pub returns-then-most_at-count : goal.returns-then-most_at-count
returns-then-most_at-count c = let b = laid c.args.cells.now c.args.foundation.now c.args.counts.now c.args.tableau.now in
    over_limit_lem b c.args.source c.args.destination c.args.count c.args.card c.requires.sound c.requires.card_value c.if-source-destination.false c.from-lie.result c.from-lie.ensures c.if-lie-eq0.false c.if-lie-count.false c.code_of-code.ensures c.if-tableau-deepest.false c.most_at.ensures c.if-most_at-count.true

pub run_at-requires : goal.run_at-requires
run_at-requires c = record { good_columns = c.requires.sound.in_columns; i_bound = ltb-true c.args.source 8 (said_from _ c.requires.card_value) }

pub returns-then-run_at-count : goal.returns-then-run_at-count
returns-then-run_at-count c = let b = laid c.args.cells.now c.args.foundation.now c.args.counts.now c.args.tableau.now in
    no_run_lem b c.args.source c.args.destination c.args.count c.args.card c.requires.sound c.requires.card_value c.if-source-destination.false c.from-lie.result c.from-lie.ensures c.if-lie-eq0.false c.if-lie-count.false c.code_of-code.ensures c.if-tableau-deepest.false c.most_at.ensures c.if-most_at-count.false c.run_at.ensures c.if-run_at-count.true

pub fit_at-requires : goal.fit_at-requires
fit_at-requires c = record { good_columns = c.requires.sound.in_columns; i_bound = ltb-true c.args.destination 8 (said_to _ c.requires.card_value); code_value = subst (λ (x : ℕ). is_card x ≡ true) (sym c.code_of-code.ensures) (code_is_card c.args.card (said_value _ c.requires.card_value)) }

pub returns : goal.returns
returns c = let b = laid c.args.cells.now c.args.foundation.now c.args.counts.now c.args.tableau.now in
    run_lands b c.args.source c.args.destination c.args.count c.args.card c.requires.sound c.requires.card_value c.if-source-destination.false c.from-lie.result c.from-lie.ensures c.if-lie-eq0.false c.if-lie-count.false c.code_of-code.ensures c.if-tableau-deepest.false c.most_at.ensures c.if-most_at-count.false c.run_at.ensures c.if-run_at-count.false c.fit_at.ensures c.ruled.ensures
