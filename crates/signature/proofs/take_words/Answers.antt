-- What `take_words` leaves to be shown: the fold over the words is the hash.
use Rattle.std.proofs.Common.{◌∙◌, rules}
use borrow.Author.Tests.{tests}
use Rattle.std.proofs.lemmas.Iterator.{YieldsList-from_slice}
use Rattle.std.proofs.lemmas.Iterator.Consumers.{fold_from_yields_List}
use Rattle.signature.specs.Fnv.{fnv_step}
use Rattle.signature.proofs.Hashing.{hash_all}
use Rattle.signature.proofs.take_words.Goals as goal

pub returns : goal.returns
returns c =
    fold_from_yields_List _ fnv_step c.args.h c.fold.result c.fold.ensures.ran (YieldsList-from_slice c.args.s.now cc) (λ a x b q k. search (rules, tests))
    ∙ hash_all c.args.h c.args.s.now
