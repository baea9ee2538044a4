-- What `meets_test` leaves to be shown: what each test asks.
use Rattle.board.specs.Record.{shown, laid}
use Rattle.candidates.proofs.Worth.{meets_unsafe, meets_worth}
use Rattle.tried.proofs.meets_test.Goals as goal

pub returns-in-Unsafe : goal.returns-in-Unsafe
returns-in-Unsafe c = let b = laid c.args.cells.now c.args.foundation.now c.args.counts.now c.args.tableau.now in
    meets_unsafe (shown b) c.args.m c.in-Unsafe.is c.is_safe-in-Unsafe.ensures

pub returns-in-Worthwhile : goal.returns-in-Worthwhile
returns-in-Worthwhile c = let b = laid c.args.cells.now c.args.foundation.now c.args.counts.now c.args.tableau.now in
    meets_worth (shown b) c.args.m c.in-Worthwhile.is c.requires.before_value c.features_after.ensures.value c.is_better.ensures
