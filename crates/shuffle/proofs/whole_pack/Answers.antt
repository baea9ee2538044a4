-- What `whole_pack` leaves to be shown: each place has its card.
use borrow.Author.Rules.{rules}
use Rattle.base.proofs.Filling.{listed_calls}
use Rattle.card.specs.Pack.{card_at}
use Rattle.shuffle.proofs.whole_pack.Goals as goal

pub returns : goal.returns
returns c = listed_calls card_at c.from_fn.ensures.items (λ k x before after h e. search rules)
