-- What `won_at` leaves to be shown: the test of the four counts.
use Rattle.std.proofs.Common.{rules, eqb, ◌∙◌}
use borrow.Author.Tests.{tests}
use Rattle.std.proofs.lemmas.Iterator.{YieldsList-from_slice}
use Rattle.std.proofs.lemmas.Iterator.Search.{all_from_yields_List}
use Rattle.base.proofs.Lists.{list_all-places}
use Rattle.questions.specs.Questions.{won_on}
use Rattle.questions.proofs.won_at.Goals as goal

pub returns : goal.returns
unfolding won_on
returns c =
    all_from_yields_List (λ n. eqb n 13) _ _ _ c.all.ensures.ran (YieldsList-from_slice c.args.foundation.now cc) (λ x b q k. search (rules, tests))
    ∙ list_all-places (λ n. eqb n 13) c.args.foundation.now c.requires.four
