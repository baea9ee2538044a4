-- What `cells_home` leaves to be shown: a sum over the four cells, of 1 at most each.
use mathlib.Core.List.{[], ◌∷◌}
use Rattle.std.proofs.Common.{ℕ, cond, List, get_or, refl, rules, arith}
use borrow.Author.Tests.{tests}
use Rattle.std.proofs.lemmas.Iterator.{YieldsList-from_range, YieldsList-from_map}
use Rattle.base.proofs.Lists.{sum_from_range, fits_from_range}
use Rattle.base.proofs.Sums.{sum_ones}
use Rattle.board.specs.Table.{held}
use Rattle.features.specs.Features.{last_goes_home}
use Rattle.features.proofs.Blocking.{by_most}
use Rattle.features.proofs.cells_home.Goals as goal

-- what cell i adds
abbrev one : List ℕ → List ℕ → ℕ → ℕ
one foundation cells i = cond (last_goes_home foundation (held (get_or cells i 0 ∷ []))) 1 0

pub returns : goal.returns
returns c =
    sum_from_range (one c.args.foundation.now c.args.cells.now) 4 c.map.result _ c.sum.ensures.ran
    (YieldsList-from_map _ (one c.args.foundation.now c.args.cells.now) (YieldsList-from_range 0 4 4 c.map.ensures.source refl) c.map.ensures.closure (λ x r q k. search (rules, tests)))

pub sum-requires-clause-fits : goal.sum-requires-clause-fits
sum-requires-clause-fits c =
    fits_from_range (one c.args.foundation.now c.args.cells.now) 4 _ _
    (YieldsList-from_map _ (one c.args.foundation.now c.args.cells.now) (YieldsList-from_range 0 4 4 c.map.ensures.source refl) c.map.ensures.closure (λ x r q k. search (rules, tests)))
    (let s = sum_ones (one c.args.foundation.now c.args.cells.now) 4 (λ k h. by_most (last_goes_home c.args.foundation.now (held (get_or c.args.cells.now k 0 ∷ []))) 1) in omega arith)
