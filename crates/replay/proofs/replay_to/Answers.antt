-- What `replay_to` leaves to be shown: what is left to replay ends as the whole line does.
use mathlib.Core.Path.{◌≡◌, sym, ap, subst, ◌∙◌}
use native.Mathlib.Omega.{arith}
use Rattle.base.specs.Answer.{refused}
use Rattle.board.specs.Refusal.{number_of}
use Rattle.board.specs.Record.{laid}
use Rattle.board.specs.declared.Board.{Board}
use Rattle.replay.proofs.Stepping.{said_yes, said_no}
use Rattle.replay.proofs.Lining.{runs_start, runs_turn, runs_stop, runs_end, ends_no, ends_yes}
use Prim.Native.Nat.{ℕ, ◌+◌, ◌*◌, ◌/◌}
use lib.ListN.{length}
use Rattle.board.specs.Verdict.{fine}
use Rattle.replay.proofs.Lining.{Runs}
use Rattle.replay.proofs.replay_to.Goals as goal

pub loop-moves-init : goal.loop-moves-init
loop-moves-init c = let b = laid c.args.cells.now c.args.foundation.now c.args.counts.now c.args.tableau.now in
    runs_start c.args.bytes.now c.requires.bytes_len b c.requires.sound

pub apply_record_to-said-requires : goal.apply_record_to-said-requires
apply_record_to-said-requires c = c.loop-moves.invariant.sound

pub returns-in-Err : goal.returns-in-Err
returns-in-Err c = let b = laid c.args.cells.now c.args.foundation.now c.args.counts.now c.args.tableau.now in
    let a = said_no _ c.apply_record_to-said.ensures.moves c.in-Err.is in
    record { ends = ends_no (runs_stop c.args.bytes.now c.requires.bytes_len b c.loop-moves.invariant (omega arith) a.0 ∙ ap (λ (d : Board). record { verdict = refused (number_of c.in-Err.why); moves = c.loop-moves.moves; board = d }) (sym a.1)); sound_2 = c.apply_record_to-said.ensures.sound }

pub loop-moves-preserved : goal.loop-moves-preserved
loop-moves-preserved c = let b = laid c.args.cells.now c.args.foundation.now c.args.counts.now c.args.tableau.now in
    subst (Runs c.args.bytes.now b _ (c.loop-moves.moves + 1)) (let q : c.loop-moves.moves * 5 + 5 ≡ (c.loop-moves.moves + 1) * 5 = omega arith in q)
    (runs_turn c.args.bytes.now c.requires.bytes_len b c.loop-moves.invariant (omega arith) (said_yes _ c.apply_record_to-said.ensures.moves c.in_default.is) c.apply_record_to-said.ensures.sound)

pub returns : goal.returns
returns c = let b = laid c.args.cells.now c.args.foundation.now c.args.counts.now c.args.tableau.now in
    let all : c.loop-moves.moves ≡ length c.args.bytes.now / 5 = omega (arith, c.loop-moves-test.false) in
    record { ends = ends_yes (runs_end c.args.bytes.now c.requires.bytes_len b c.loop-moves.invariant (omega (arith, c.loop-moves-test.false, c.requires.bytes_len)) ∙ ap (λ (n : ℕ). record { verdict = fine; moves = n; board = laid c.loop-moves.cells c.loop-moves.foundation c.loop-moves.counts c.loop-moves.tableau }) all); sound_2 = c.loop-moves.invariant.sound }
