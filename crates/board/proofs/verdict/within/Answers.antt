-- What `within` leaves to be shown: the library's word is ours.
use mathlib.Core.Path.{◌∙◌}
use borrow.Author.Rules.{rules}
use borrow.Author.Tests.{tests}
use Rattle.std.proofs.lemmas.Iterator.{YieldsList-from_slice}
use Rattle.std.proofs.lemmas.Iterator.Search.{all_from_yields_List}
use Rattle.base.proofs.Lists.{list_all-all}
use Rattle.board.specs.Record.{at_most}
use Rattle.board.proofs.verdict.within.Goals as goal

pub returns : goal.returns
returns c =
    all_from_yields_List (at_most c.args.most) _ _ _ c.all.ensures.ran (YieldsList-from_slice c.args.counts.now cc) (λ x b q k. search (rules, tests))
    ∙ list_all-all (at_most c.args.most) c.args.counts.now
