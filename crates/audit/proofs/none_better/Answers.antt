-- What `none_better` leaves to be shown: each of the lengths is tested.
use Rattle.std.proofs.Common.{rules, ℕ, Bool, ◌||◌, eqb, leb, refl, arith}
use Rattle.sheets.specs.Figures.{told, lists}
use Rattle.sheets.specs.Over.{behind}
use Rattle.sheets.proofs.Ranges.{over_range, all_tested}
use Rattle.audit.proofs.none_better.Goals as goal

pub returns : goal.returns
returns c =
    let h = c.all.ensures.runs in
    let p : ℕ → Bool = λ m. eqb (told c.args.sheet.now (lists m)) 0 || leb (behind c.args.side c.args.list) (behind c.args.side m) in
    all_tested (over_range 0 201 201 (λ k. k) refl (λ k. omega arith) refl h.0 h.1) _ p _ (λ x t q k. search rules) c.all.result h.2
