-- What `is_better` leaves to be shown: one test after the other.
use Rattle.candidates.proofs.Worth.{more_options, less_blocked, longer_run}
use Rattle.tried.proofs.is_better.Goals as goal

pub returns-then-before-after : goal.returns-then-before-after
returns-then-before-after c = more_options c.args.before c.args.after c.if-before-after.true

pub returns-then-after-before : goal.returns-then-after-before
returns-then-after-before c = less_blocked c.args.before c.args.after c.if-before-after.false c.if-after-before.true

pub returns : goal.returns
returns c = longer_run c.args.before c.args.after c.if-before-after.false c.if-after-before.false
