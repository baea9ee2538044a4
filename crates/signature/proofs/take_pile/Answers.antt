-- What `take_pile` leaves to be shown: the fold over the pile's cards is the hash.
use Rattle.std.proofs.Common.{◌+◌, ◌*◌, refl, ◌∙◌, rules, arith}
use borrow.Author.Tests.{tests}
use Rattle.std.proofs.lemmas.Iterator.{YieldsList-from_range}
use Rattle.std.proofs.lemmas.Iterator.Consumers.{fold_from_yields_List}
use Rattle.board.specs.Table.{pile}
use Rattle.signature.specs.Fnv.{fnv_step}
use Rattle.signature.proofs.Hashing.{hash_listed}
use Rattle.signature.proofs.take_pile.Goals as goal

pub returns : goal.returns
unfolding pile
returns c =
    fold_from_yields_List _ (λ h v. fnv_step h ((v + 1) * 16 + c.args.s)) c.args.h c.fold.result c.fold.ensures.ran
    (YieldsList-from_range 0 c.args.n c.args.n refl (omega arith)) (λ a x b q k. search (rules, tests))
    ∙ hash_listed c.args.h (λ k. (k + 1) * 16 + c.args.s) c.args.n
