-- The records of the chain, replayed, are the chain: the same number of moves, and the same board.
use Rattle.std.specs.Prelude.{Ok}
use mathlib.Core.Path.{◌≡◌, refl, sym, ap, ◌∙◌}
use native.Mathlib.Omega.{arith}
use lib.ListN.{length}
use Rattle.board.specs.Verdict.{fine}
use Rattle.board.specs.Record.{shown, board_of}
use Rattle.board.specs.Inner.{Sound}
use Rattle.board.specs.declared.Board.{Board}
use Rattle.board.proofs.Soundness.{sound_fine}
use Rattle.board.proofs.Fair.{shows_fair}
use Rattle.replay.specs.Line.{line_from, replayed}
use Rattle.replay.specs.Played.{after_moves}
use Rattle.replay.proofs.Replaying.{a_line, good_line}
use Rattle.replay.proofs.Legal.{records_written, line_legal}
use Rattle.moves.specs.Written.{bytes_of}
use Rattle.moves.proofs.Writing.{bytes_long}
use Rattle.safe.specs.Chain.{chain}
use Rattle.safe.proofs.Chaining.{chain_legal, chain_most}

pub chain-replayed : (b : Board) → Sound b
    → replayed b (bytes_of (chain (shown b)))
    ≡ record { verdict = fine; moves = length (chain (shown b)); board = board_of (after_moves (shown b) (chain (shown b))) }
chain-replayed b s =
    let f = shows_fair s in
    let most = chain_most (shown b) f in
    let long = bytes_long (chain (shown b)) in
    good_line b (bytes_of (chain (shown b))) {r = (Ok tt)} (sym (sound_fine s)) refl (a_line (bytes_of (chain (shown b))) (omega arith) (omega arith))
    ∙ ap (line_from b) (records_written (chain (shown b)))
    ∙ line_legal (chain (shown b)) b s (chain_legal (shown b) f)
