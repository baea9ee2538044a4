-- What `blocked_low_penalty` leaves to be shown: a sum over the eight columns, each of which adds little.
use Rattle.std.proofs.Common.{refl, ◌∙◌, rules, arith}
use borrow.Author.Tests.{tests}
use Rattle.std.proofs.lemmas.Iterator.{YieldsList-from_range, YieldsList-from_map}
use Rattle.base.proofs.Lists.{sum_from_range, fits_from_range}
use Rattle.board.specs.Record.{column_at}
use Rattle.features.specs.Features.{blocked_in}
use Rattle.features.proofs.Blocking.{columns_little, blocked_columns}
use Rattle.features.proofs.blocked_low_penalty.Goals as goal

pub sum-requires-clause-fits : goal.sum-requires-clause-fits
sum-requires-clause-fits c =
    fits_from_range (λ i. blocked_in (column_at c.args.counts.now c.args.tableau.now i)) 8 _ _
    (YieldsList-from_map _ (λ i. blocked_in (column_at c.args.counts.now c.args.tableau.now i)) (YieldsList-from_range 0 8 8 c.map.ensures.source refl) c.map.ensures.closure (λ x r q k. search (rules, tests)))
    (let s = columns_little c.requires in omega arith)

pub returns : goal.returns
returns c =
    sum_from_range (λ i. blocked_in (column_at c.args.counts.now c.args.tableau.now i)) 8 c.map.result _
    c.sum.ensures.ran
    (YieldsList-from_map _ (λ i. blocked_in (column_at c.args.counts.now c.args.tableau.now i)) (YieldsList-from_range 0 8 8 c.map.ensures.source refl) c.map.ensures.closure (λ x r q k. search (rules, tests)))
    ∙ blocked_columns c.args.counts.now c.args.tableau.now
