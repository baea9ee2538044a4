-- What `read_body` leaves to be shown, refusal by refusal, and the board.
use mathlib.Core.Path.{sym, ap, ◌∙◌}
use mathlib.Core.List.{List}
use Prim.Native.Nat.{ℕ}
use native.Mathlib.Omega.{arith}
use Rattle.base.specs.Answer.{given}
use Rattle.board.specs.declared.Board.{Board}
use Rattle.board.proofs.Tables.{good_piles}
use Rattle.intake.proofs.Parts.{four_long}
use Rattle.intake.proofs.Imaging.{board_of_parts, body_short, body_piles, body_columns, columns_refused, columns_bad, columns_good}
use Rattle.board.specs.Record.{laid}
use Rattle.std.proofs.lemmas.Result.{err_from_is_err_and}
use Rattle.intake.proofs.Walking.{lies_yes, lies_no}
use Rattle.intake.proofs.image.read_body.Goals as goal

pub returns-then-image-lt11 : goal.returns-then-image-lt11
returns-then-image-lt11 c = sym (body_short c.args.image.now c.if-image-lt11.true)

pub returns-then-not-within : goal.returns-then-not-within
returns-then-not-within c =
    sym
    (body_piles c.args.image.now c.if-image-lt11.false c.four_at-foundation.ensures (sym c.within.ensures ∙ c.if-not-within.true))

pub returns-in_default : goal.returns-in_default
returns-in_default c =
    sym
    (body_columns c.args.image.now c.if-image-lt11.false c.four_at-cells.ensures c.four_at-foundation.ensures (sym c.within.ensures ∙ c.if-not-within.false) (lies_no c.args.image.now c.find_columns.ensures c.in_default.is)
    ∙ columns_refused c.four_at-cells.result c.four_at-foundation.result)

pub verdict_on-requires : goal.verdict_on-requires
verdict_on-requires c = record { cells_len = four_long c.args.image.now c.four_at-cells.result 3 (omega arith) c.four_at-cells.ensures; good_piles = good_piles c.four_at-foundation.result (four_long c.args.image.now c.four_at-foundation.result 7 (omega arith) c.four_at-foundation.ensures) (sym c.within.ensures ∙ c.if-not-within.false); parts = (lies_yes c.args.image.now c.find_columns.ensures c.in-Some.is).parts }

pub returns-in_err-verdict_on : goal.returns-in_err-verdict_on
returns-in_err-verdict_on c = let p = err_from_is_err_and c.from_residual.result c.from_residual.ensures.1 in rw (p.1, p.2)
    (sym
    (body_columns c.args.image.now c.if-image-lt11.false c.four_at-cells.ensures c.four_at-foundation.ensures (sym c.within.ensures ∙ c.if-not-within.false) (lies_yes c.args.image.now c.find_columns.ensures c.in-Some.is).columns
    ∙ columns_bad c.four_at-cells.result c.four_at-foundation.result _ c.verdict_on.ensures c.in_err-verdict_on.was))

pub fill-tableau-requires : goal.fill-tableau-requires
fill-tableau-requires c = (lies_yes c.args.image.now c.find_columns.ensures c.in-Some.is).parts

pub returns : goal.returns
returns c =
    sym
    (body_columns c.args.image.now c.if-image-lt11.false c.four_at-cells.ensures c.four_at-foundation.ensures (sym c.within.ensures ∙ c.if-not-within.false) (lies_yes c.args.image.now c.find_columns.ensures c.in-Some.is).columns
    ∙ columns_good c.four_at-cells.result c.four_at-foundation.result _ c.verdict_on.ensures c.in_ok-verdict_on.was
    ∙ ap (λ (b : Board). given b) (board_of_parts c.four_at-cells.result c.four_at-foundation.result _ _ _ (lies_yes c.args.image.now c.find_columns.ensures c.in-Some.is).parts)
    ∙ ap (λ (t : List ℕ). given (laid c.four_at-cells.result c.four_at-foundation.result c.in-Some.lie.counts t)) (sym c.fill-tableau.ensures))
