-- What `are_cards` leaves to be shown: the library's word is ours.
use mathlib.Core.Path.{◌∙◌}
use borrow.Author.Rules.{rules}
use borrow.Author.Tests.{tests}
use Rattle.std.proofs.lemmas.Iterator.{YieldsList-from_slice}
use Rattle.std.proofs.lemmas.Iterator.Search.{all_from_yields_List}
use Rattle.base.proofs.Lists.{list_all-all}
use Rattle.card.specs.Card.{is_card}
use Rattle.board.proofs.verdict.are_cards.Goals as goal

pub returns : goal.returns
returns c =
    all_from_yields_List is_card _ _ _ c.all.ensures.ran (YieldsList-from_slice c.args.codes.now cc) (λ x b q k. search (rules, tests))
    ∙ list_all-all is_card c.args.codes.now
