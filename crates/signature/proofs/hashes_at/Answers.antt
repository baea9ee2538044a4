-- What `hashes_at` leaves to be shown: the array is the eight columns' hashes.
use Rattle.std.proofs.Common.{◌∙◌, rules}
use borrow.Author.Tests.{tests}
use Rattle.base.proofs.Lists.{from_fn_listed}
use Rattle.board.specs.Record.{column_at}
use Rattle.signature.specs.Fnv.{fnv}
use Rattle.signature.proofs.Columns.{hashes_are}
use Rattle.signature.proofs.hashes_at.Goals as goal

pub returns : goal.returns
returns c =
    from_fn_listed _ (λ i. fnv (column_at c.args.counts.now c.args.tableau.now i)) _ (λ i y q k. search (rules, tests)) c.from_fn.result 8 c.from_fn.ensures.items
    ∙ hashes_are (column_at c.args.counts.now c.args.tableau.now)
