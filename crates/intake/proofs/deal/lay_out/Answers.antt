-- What `lay_out` leaves to be shown: each place has its code.
use borrow.Author.Rules.{rules}
use borrow.Author.Tests.{tests}
use Rattle.base.proofs.Lists.{from_fn_listed}
use Rattle.intake.specs.Inside.{deck_code}
use Rattle.intake.proofs.deal.lay_out.Goals as goal

pub returns : goal.returns
returns c = from_fn_listed _ (deck_code c.args.deck.now) _ (λ i y q k. search (rules, tests)) c.from_fn.result 416 c.from_fn.ensures.items
