-- What `put_records` leaves to be shown: record after record.
use mathlib.Core.Path.{sym, ◌∙◌}
use native.Mathlib.Omega.{arith}
use Rattle.onetext.proofs.Lining.{record_on, record_done}
use Rattle.onetext.proofs.write.put_records.Goals as goal

pub loop-record-preserved : goal.loop-record-preserved
loop-record-preserved c =
    let s = c.in-Some.ensures.steps in
    let l = c.loop-record.invariant in
    (s.0.0 ∙ l.0, record_on c.requires.n_in_bounds_2 l.1 _ _ _ s.0.1.0 (s.0.1.1 ∙ l.0) (sym s.1) c.put_line-to.ensures)

pub returns : goal.returns
returns c = record_done c.requires.n_in_bounds_2 c.loop-record.invariant.1 (λ h. let s = c.in-None.ensures.steps h in let l = c.loop-record.invariant.0 in omega arith)
