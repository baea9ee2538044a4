-- What `longest_run_length` leaves to be shown: the greatest of eight.
use Rattle.std.proofs.Common.{refl, ◌∙◌, max, rules}
use borrow.Author.Tests.{tests}
use Rattle.std.proofs.lemmas.Iterator.{YieldsList-from_range, YieldsList-from_map}
use Rattle.std.proofs.lemmas.Iterator.Consumers.{fold_from_yields_List}
use Rattle.board.specs.Record.{column_at}
use Rattle.runs.specs.Run.{run_length}
use Rattle.features.proofs.Extremes.{longest_is}
use Rattle.features.proofs.longest_run_length.Goals as goal

pub returns : goal.returns
returns c =
    fold_from_yields_List _ max 0 c.fold.result c.fold.ensures.ran
    (YieldsList-from_map _ (λ i. run_length (column_at c.args.counts.now c.args.tableau.now i)) (YieldsList-from_range 0 8 8 c.map.ensures.source refl) c.map.ensures.closure (λ x r q k. search (rules, tests)))
    (λ a x b q k. search (rules, tests))
    ∙ longest_is (column_at c.args.counts.now c.args.tableau.now)
