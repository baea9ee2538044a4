-- What `judge_deals` leaves to be shown: the sheet over the deals before n, one deal after the other.
use mathlib.Core.Path.{ap, ◌∙◌}
use native.Mathlib.Omega.{arith}
use Rattle.season.proofs.Judging.{upto, none_yet, next_enterable, one_more, none_at_all}
use Rattle.season.proofs.judge_deals.Goals as goal

pub loop-n-init : goal.loop-n-init
loop-n-init c = ((λ h. absurd (omega arith)), none_yet c.args.partial c.requires.playable c.start.ensures)

pub enter_deal-requires-clause-enterable : goal.enter_deal-requires-clause-enterable
enter_deal-requires-clause-enterable c = next_enterable c.args.partial c.requires.playable c.loop-n.invariant.1 c.loop-n.auto.n c.loop-n-test.true

pub loop-n-preserved : goal.loop-n-preserved
loop-n-preserved c = (
  (λ h. omega arith),
  one_more c.args.partial c.requires.playable c.loop-n.invariant.1 c.loop-n.auto.n c.loop-n-test.true c.enter_deal.ensures
      ∙ ap (upto c.args.partial c.requires.playable) (omega arith),
)

pub returns : goal.returns
returns c = none_at_all c.args.partial c.requires.playable c.loop-n.invariant.1 c.loop-n.auto.n c.loop-n.invariant.0 c.loop-n-test.false

pub returns-2 : goal.returns-2
returns-2 c =
    one_more c.args.partial c.requires.playable c.loop-n.invariant.1 c.loop-n.auto.n c.loop-n-test.true c.enter_deal.ensures
    ∙ ap (upto c.args.partial c.requires.playable) (omega arith)
