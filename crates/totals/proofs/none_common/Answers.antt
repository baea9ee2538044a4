-- What `none_common` leaves to be shown: each of the deal numbers is tested.
use Rattle.std.proofs.Common.{rules, ℕ, suc, refl, arith, Bool, not, ◌&&◌}
use Rattle.sheets.specs.Good.{covered}
use Rattle.sheets.specs.Adding.{apart}
use Rattle.sheets.proofs.Ranges.{over_range, all_tested}
use Rattle.totals.proofs.none_common.Goals as goal

pub returns : goal.returns
unfolding apart
returns c =
    let h = c.all.ensures.runs in
    let p : ℕ → Bool = λ n. not (covered c.args.a.now n && covered c.args.b.now n) in
    let each = over_range 1 32001 32000 suc refl (λ k. omega arith) refl h.0 h.1 in
    all_tested each _ p _ (λ x t q k. search rules) c.all.result h.2
