-- What `keep` leaves to be shown: the record says its move, and the move is written if it meets the test.
use mathlib.Core.Path.{sym, ◌∙◌}
use Rattle.board.specs.Record.{shown, laid}
use Rattle.moves.specs.Record.{move_of}
use Rattle.candidates.specs.Inner.{meets}
use Rattle.candidates.proofs.Picking.{told_move, never_impossible, told_ready, kept-room, kept, passed}
use Rattle.tried.proofs.keep.Goals as goal

pub returns-in_default : goal.returns-in_default
returns-in_default c = absurd (never_impossible c.args.bytes.now c.requires.bytes_value c.decode.ensures.result_value c.in_default.is)

pub meets_test-requires : goal.meets_test-requires
meets_test-requires c = record { ready = told_ready c.args.bytes.now c.requires.bytes_value c.decode.ensures.result_value c.in-Some.is c.requires.ready; before_value = c.requires.before_value }

pub write-requires : goal.write-requires
write-requires c = let b = laid c.args.cells.now c.args.foundation.now c.args.counts.now c.args.tableau.now in
    record { m_value = (told_ready c.args.bytes.now c.requires.bytes_value c.decode.ensures.result_value c.in-Some.is c.requires.ready).said; n_in_bounds = kept-room (meets c.args.test (shown b)) (move_of c.args.bytes.now) (told_move c.args.bytes.now c.requires.bytes_value c.decode.ensures.result_value c.in-Some.is) _ _ (sym c.meets_test.ensures ∙ c.if-meets_test.true) c.requires.bytes_in_bounds }

pub returns-then-meets_test : goal.returns-then-meets_test
returns-then-meets_test c = let b = laid c.args.cells.now c.args.foundation.now c.args.counts.now c.args.tableau.now in
    kept (meets c.args.test (shown b)) (move_of c.args.bytes.now) (told_move c.args.bytes.now c.requires.bytes_value c.decode.ensures.result_value c.in-Some.is) (sym c.meets_test.ensures ∙ c.if-meets_test.true) c.write.ensures

pub returns : goal.returns
returns c = let b = laid c.args.cells.now c.args.foundation.now c.args.counts.now c.args.tableau.now in
    passed (meets c.args.test (shown b)) (move_of c.args.bytes.now) (told_move c.args.bytes.now c.requires.bytes_value c.decode.ensures.result_value c.in-Some.is) _ _ (sym c.meets_test.ensures ∙ c.if-meets_test.false)
