-- What `is_safe` leaves to be shown: the move's card is one.
use Rattle.candidates.proofs.Worth.{good_value, good_code, safe_here}
use Rattle.board.specs.Record.{laid}
use Rattle.tried.proofs.is_safe.Goals as goal

pub code_of-code-requires : goal.code_of-code-requires
code_of-code-requires c = good_value c.requires c.deepest_of.ensures

pub is_safe_at-requires : goal.is_safe_at-requires
is_safe_at-requires c = record { good_piles = c.requires.sound.in_piles; code_value = good_code c.requires c.deepest_of.ensures c.code_of-code.ensures }

pub returns : goal.returns
returns c = let b = laid c.args.cells.now c.args.foundation.now c.args.counts.now c.args.tableau.now in
    safe_here b c.args.m c.deepest_of.ensures c.code_of-code.ensures c.is_safe_at.ensures
