-- What `take_homes` leaves to be shown: suit by suit.
use Rattle.std.proofs.Common.{refl, ◌∙◌, rules}
use borrow.Author.Tests.{tests}
use Rattle.std.proofs.lemmas.Iterator.{YieldsList-from_range}
use Rattle.std.proofs.lemmas.Iterator.Consumers.{fold_from_yields_List}
use Rattle.signature.specs.Fnv.{offset, fnv_from, fnv}
use Rattle.signature.specs.Signed.{home_words}
use Rattle.signature.proofs.Hashing.{lists_hashed}
use Rattle.signature.proofs.take_homes.Goals as goal

pub returns : goal.returns
unfolding fnv
returns c =
    fold_from_yields_List _ (λ h i. fnv_from h (home_words c.args.foundation.now i)) offset c.fold.result c.fold.ensures.ran
    (YieldsList-from_range 0 4 4 refl refl) (λ a x b q k. search (rules, tests))
    ∙ lists_hashed offset (home_words c.args.foundation.now) 4
