-- What `count_of` leaves to be shown: hits added up are no more than the bytes are.
use Rattle.std.proofs.Common.{refl, cond, eqb, ◌∙◌, rules, arith}
use borrow.Author.Tests.{tests}
use Rattle.std.proofs.lemmas.Iterator.{YieldsList-from_slice, YieldsList-from_map}
use Rattle.std.proofs.lemmas.Iterator.Consumers.{sum_by_from_yields_List, fits_by_from_yields_list}
use Rattle.std.proofs.lemmas.List.Sums.{count_by-le-length}
use Rattle.base.proofs.Lists.{sum_by-places}
use Rattle.questions.proofs.count_of.Goals as goal

pub sum-requires-clause-fits : goal.sum-requires-clause-fits
sum-requires-clause-fits c =
    fits_by_from_yields_list (λ y. cond (eqb y c.args.x) 1 0) c.args.s.now _ _
    (YieldsList-from_map _ (λ y. cond (eqb y c.args.x) 1 0) (YieldsList-from_slice c.args.s.now cc) c.map.ensures.closure (λ x r q k. search (rules, tests)))
    (omega (arith, count_by-le-length (λ y. eqb y c.args.x) c.args.s.now))

pub returns : goal.returns
returns c =
    sum_by_from_yields_List (λ y. cond (eqb y c.args.x) 1 0) c.args.s.now c.map.result _ c.sum.ensures.ran
    (YieldsList-from_map _ (λ y. cond (eqb y c.args.x) 1 0) (YieldsList-from_slice c.args.s.now cc) c.map.ensures.closure (λ x r q k. search (rules, tests)))
    ∙ sum_by-places (λ y. cond (eqb y c.args.x) 1 0) c.args.s.now refl
