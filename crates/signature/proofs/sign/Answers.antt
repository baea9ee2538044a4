-- What `sign` leaves to be shown: part after part.
use Rattle.std.proofs.Common.{ap, ◌∙◌, rules}
use borrow.Author.Tests.{tests}
use Rattle.base.specs.Rising.{rising}
use Rattle.base.proofs.Lists.{map_same}
use Rattle.signature.proofs.Joined.{signed_by}
use Rattle.signature.proofs.sign.Goals as goal

pub returns : goal.returns
returns c =
    signed_by c.args.foundation.now c.args.cells.now c.args.hashes.now
    c.take_homes-homes.ensures
    c.step.ensures
    (c.sort.ensures ∙ ap rising (map_same _ _ c.args.cells.now c.map-held.result 4 c.requires.cells_len c.map-held.ensures.items (λ p q x y k. search (rules, tests))))
    c.take_words-with_cells.ensures
    c.step-2.ensures
    c.sort-2.ensures
    c.take_words.ensures
