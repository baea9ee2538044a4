-- What `columns_home` leaves to be shown: a sum over the eight columns, of 1 at most each.
use Rattle.std.proofs.Common.{ℕ, cond, List, refl, rules, arith}
use borrow.Author.Tests.{tests}
use Rattle.std.proofs.lemmas.Iterator.{YieldsList-from_range, YieldsList-from_map}
use Rattle.base.proofs.Lists.{sum_from_range, fits_from_range}
use Rattle.base.proofs.Sums.{sum_ones}
use Rattle.board.specs.Record.{column_at}
use Rattle.features.specs.Features.{last_goes_home}
use Rattle.features.proofs.Blocking.{by_most}
use Rattle.features.proofs.columns_home.Goals as goal

-- what column i adds
abbrev one : List ℕ → List ℕ → List ℕ → ℕ → ℕ
one foundation counts tableau i = cond (last_goes_home foundation (column_at counts tableau i)) 1 0

pub sum-requires-clause-fits : goal.sum-requires-clause-fits
sum-requires-clause-fits c =
    fits_from_range (one c.args.foundation.now c.args.counts.now c.args.tableau.now) 8 _ _
    (YieldsList-from_map _ (one c.args.foundation.now c.args.counts.now c.args.tableau.now) (YieldsList-from_range 0 8 8 c.map.ensures.source refl) c.map.ensures.closure (λ x r q k. search (rules, tests)))
    (let s = sum_ones (one c.args.foundation.now c.args.counts.now c.args.tableau.now) 8 (λ k h. by_most (last_goes_home c.args.foundation.now (column_at c.args.counts.now c.args.tableau.now k)) 1) in omega arith)

pub returns : goal.returns
returns c =
    sum_from_range (one c.args.foundation.now c.args.counts.now c.args.tableau.now) 8 c.map.result _ c.sum.ensures.ran
    (YieldsList-from_map _ (one c.args.foundation.now c.args.counts.now c.args.tableau.now) (YieldsList-from_range 0 8 8 c.map.ensures.source refl) c.map.ensures.closure (λ x r q k. search (rules, tests)))
