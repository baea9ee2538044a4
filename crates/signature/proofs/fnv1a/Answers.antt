-- What `fnv1a` leaves to be shown: the fold over the bytes is the hash.
use Rattle.std.proofs.Common.{◌∙◌, rules}
use borrow.Author.Tests.{tests}
use Rattle.std.proofs.lemmas.Iterator.{YieldsList-from_slice}
use Rattle.std.proofs.lemmas.Iterator.Consumers.{fold_from_yields_List}
use Rattle.signature.specs.Fnv.{offset, fnv_step, fnv}
use Rattle.signature.proofs.Hashing.{hash_all}
use Rattle.signature.proofs.fnv1a.Goals as goal

pub returns : goal.returns
unfolding fnv
returns c =
    fold_from_yields_List _ fnv_step offset c.fold.result c.fold.ensures.ran (YieldsList-from_slice c.args.s.now cc) (λ a x b q k. search (rules, tests))
    ∙ hash_all offset c.args.s.now
