-- What `examine` leaves to be shown: test by test.
use Rattle.sheets.proofs.Deciding.{good_long, good_budget, good_answers, good_lists, good_shortest, good_longest, good_pops, pops_fit, part_sums}
use Prim.Native.Nat.{◌≤◌}
use native.Mathlib.Omega.{arith}
use Rattle.sheets.proofs.Goodness.{deals_most}
use Rattle.audit.proofs.examine.Goals as goal

pub returns-then-sheet-ne-SHEET : goal.returns-then-sheet-ne-SHEET
returns-then-sheet-ne-SHEET c = good_long _ c.if-sheet-ne-SHEET.true

pub returns-then-budget-gt-MOST_BUDGET : goal.returns-then-budget-gt-MOST_BUDGET
returns-then-budget-gt-MOST_BUDGET c = good_budget _ c.if-budget-gt-MOST_BUDGET.true

pub returns-then-not-adds_up : goal.returns-then-not-adds_up
returns-then-not-adds_up c = good_answers _ _ c.count_deals-count.ensures _ (part_sums c.args.sheet.now 3 7 _ _ (omega arith) c.adds_up.ensures) c.if-not-adds_up.true

pub returns-then-not-adds_up-2 : goal.returns-then-not-adds_up-2
returns-then-not-adds_up-2 c = good_lists _ _ c.count_deals-count.ensures _ (part_sums c.args.sheet.now 15 201 _ _ (omega arith) c.adds_up-2.ensures) c.if-not-adds_up-2.true

pub returns-then-not-right : goal.returns-then-not-right
returns-then-not-right c = good_shortest _ _ c.count_deals-count.ensures _ c.right.ensures c.if-not-right.true

pub returns-then-not-right-2 : goal.returns-then-not-right-2
returns-then-not-right-2 c = good_longest _ _ c.count_deals-count.ensures _ c.right-2.ensures c.if-not-right-2.true

pub overflow_mul-result : goal.overflow_mul-result
overflow_mul-result c = let m = deals_most c.args.sheet.now in let p = pops_fit _ _ c.if-budget-gt-MOST_BUDGET.false (let z : c.count_deals-count.result ≤ 32000 = omega (arith, m) in z) in record { fits = omega (arith, p) }

pub returns : goal.returns
returns c = good_pops _ _ c.count_deals-count.ensures c.if-sheet-ne-SHEET.false c.if-budget-gt-MOST_BUDGET.false _ _ _ _ (part_sums c.args.sheet.now 3 7 _ _ (omega arith) c.adds_up.ensures) c.if-not-adds_up.false (part_sums c.args.sheet.now 15 201 _ _ (omega arith) c.adds_up-2.ensures) c.if-not-adds_up-2.false c.right.ensures c.if-not-right.false c.right-2.ensures c.if-not-right-2.false
