-- What `total_at` leaves to be shown: the sum of the four counts, which is small.
use Rattle.std.proofs.Common.{rules, arith, ◌∙◌}
use Rattle.std.proofs.lemmas.Iterator.{YieldsList-from_slice, YieldsList-from_map}
use Rattle.std.proofs.lemmas.Iterator.Consumers.{sum_by_from_yields_List, fits_by_from_yields_list}
use Rattle.questions.proofs.Totals.{home_52, home_added}
use Rattle.questions.proofs.total_at.Goals as goal

pub sum-requires-clause-fits : goal.sum-requires-clause-fits
sum-requires-clause-fits c =
    fits_by_from_yields_list (λ x. x) c.args.foundation.now _ _
    (YieldsList-from_map _ (λ x. x) (YieldsList-from_slice c.args.foundation.now cc) c.map.ensures.closure (λ x r q k. search rules))
    (omega (arith, home_added c.requires, home_52 c.args.foundation.now c.requires))

pub returns : goal.returns
returns c =
    sum_by_from_yields_List (λ x. x) c.args.foundation.now c.map.result _ c.sum.ensures.ran
    (YieldsList-from_map _ (λ x. x) (YieldsList-from_slice c.args.foundation.now cc) c.map.ensures.closure (λ x r q k. search rules))
    ∙ home_added c.requires
