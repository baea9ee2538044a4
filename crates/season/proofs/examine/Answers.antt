-- What `examine` leaves to be shown: the refusals in order.
use native.Mathlib.Omega.{arith}
use Rattle.board.specs.declared.Refusal.TheVariants.{NoNumber, OverBudget, LittleRoom, NoNode}
use Rattle.season.proofs.Accepting.{is_none, is_one, no_first, no_last, over_budget, no_sheet, no_node, accepts_no, accepts_yes}
use Rattle.season.proofs.examine.Goals as goal

pub returns-then-no_number : goal.returns-then-no_number
returns-then-no_number c = accepts_no _ _ _ _ _ NoNumber (no_first _ _ _ _ _ (is_none _ c.no_number.ensures c.if-no_number.true))

pub returns-then-no_number-2 : goal.returns-then-no_number-2
returns-then-no_number-2 c = accepts_no _ _ _ _ _ NoNumber (no_last _ _ _ _ _ (is_one _ c.no_number.ensures c.if-no_number.false) (is_none _ c.no_number-2.ensures c.if-no_number-2.true))

pub returns-then-budget-gt-MOST_POPS : goal.returns-then-budget-gt-MOST_POPS
returns-then-budget-gt-MOST_POPS c = accepts_no _ _ _ _ _ OverBudget (over_budget _ _ _ _ _ (is_one _ c.no_number.ensures c.if-no_number.false) (is_one _ c.no_number-2.ensures c.if-no_number-2.false) c.if-budget-gt-MOST_POPS.true)

pub returns-then-words-lt-SHEET : goal.returns-then-words-lt-SHEET
returns-then-words-lt-SHEET c = accepts_no _ _ _ _ _ LittleRoom (no_sheet _ _ _ _ _ (is_one _ c.no_number.ensures c.if-no_number.false) (is_one _ c.no_number-2.ensures c.if-no_number-2.false) (omega (arith, c.if-budget-gt-MOST_POPS.false)) c.if-words-lt-SHEET.true)

pub returns-then-capacity-eq0 : goal.returns-then-capacity-eq0
returns-then-capacity-eq0 c = accepts_no _ _ _ _ _ NoNode (no_node _ _ _ _ _ (is_one _ c.no_number.ensures c.if-no_number.false) (is_one _ c.no_number-2.ensures c.if-no_number-2.false) (omega (arith, c.if-budget-gt-MOST_POPS.false)) (omega (arith, c.if-words-lt-SHEET.false)) c.if-capacity-eq0.true)

pub returns : goal.returns
returns c = accepts_yes _ _ _ _ _ (is_one _ c.no_number.ensures c.if-no_number.false) (is_one _ c.no_number-2.ensures c.if-no_number-2.false) (omega (arith, c.if-budget-gt-MOST_POPS.false)) (omega (arith, c.if-words-lt-SHEET.false)) (omega (arith, c.if-capacity-eq0.false))
