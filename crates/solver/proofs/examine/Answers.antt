-- What `examine` leaves to be shown: the refusals in order.
use native.Mathlib.Omega.{arith}
use Rattle.board.proofs.Soundness.{sound}
use Rattle.questions.proofs.Asking.{verdict_fine}
use Rattle.solver.proofs.Accepting.{no_board, over_budget, no_list_lem, no_node, all-fine, accepts_no, accepts_yes}
use borrow.Author.Rules.{rules}
use Rattle.std.proofs.lemmas.Result.{err_from_is_err_and}
use Rattle.solver.proofs.examine.Goals as goal

pub returns-in_err-inspect : goal.returns-in_err-inspect
returns-in_err-inspect c = let p = err_from_is_err_and c.from_residual.result c.from_residual.ensures.1 in rw (p.1, p.2) (accepts_no _ _ _ _ (no_board _ _ _ _ c.inspect.ensures c.in_err-inspect.was))

pub returns-then-budget-gt-MOST_POPS : goal.returns-then-budget-gt-MOST_POPS
returns-then-budget-gt-MOST_POPS c = accepts_no _ _ _ _ (over_budget _ _ _ _ c.inspect.ensures c.in_ok-inspect.was c.if-budget-gt-MOST_POPS.true)

pub returns-then-lent-lt-LIST_ROOM : goal.returns-then-lent-lt-LIST_ROOM
returns-then-lent-lt-LIST_ROOM c = accepts_no _ _ _ _ (no_list_lem _ _ _ _ c.inspect.ensures c.in_ok-inspect.was (omega (arith, c.if-budget-gt-MOST_POPS.false)) c.if-lent-lt-LIST_ROOM.true)

pub returns-then-capacity-eq0 : goal.returns-then-capacity-eq0
returns-then-capacity-eq0 c = accepts_no _ _ _ _ (no_node _ _ _ _ c.inspect.ensures c.in_ok-inspect.was (omega (arith, c.if-budget-gt-MOST_POPS.false)) (omega (arith, c.if-lent-lt-LIST_ROOM.false)) c.if-capacity-eq0.true)

pub returns : goal.returns
returns c = accepts_yes _ _ _ _ (all-fine _ _ _ _ c.inspect.ensures c.in_ok-inspect.was (omega (arith, c.if-budget-gt-MOST_POPS.false)) (omega (arith, c.if-lent-lt-LIST_ROOM.false)) (omega (arith, c.if-capacity-eq0.false))) (sound c.args.b (record { four = search rules; piles = search rules; eight = search rules; full = search rules }) (verdict_fine c.inspect.ensures c.in_ok-inspect.was)) (omega (arith, c.if-budget-gt-MOST_POPS.false)) (omega (arith, c.if-lent-lt-LIST_ROOM.false)) (omega (arith, c.if-capacity-eq0.false))
