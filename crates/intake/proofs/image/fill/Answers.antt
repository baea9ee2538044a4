-- What `fill` leaves to be shown: each place has its code.
use borrow.Author.Rules.{rules}
use borrow.Author.Tests.{tests}
use Rattle.base.proofs.Lists.{from_fn_listed}
use Rattle.intake.specs.Inside.{part_code}
use Rattle.intake.proofs.image.fill.Goals as goal

pub returns : goal.returns
returns c = from_fn_listed _ (part_code c.args.starts.now c.args.counts.now c.args.codes.now) _ (λ i y q k. search (rules, tests)) c.from_fn.result 416 c.from_fn.ensures.items
