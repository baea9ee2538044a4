-- What `offer` leaves to be shown: the place decides.
use mathlib.Core.Path.{sym, ap, ◌∙◌}
use mathlib.Core.List.{[], ◌∷◌}
use native.Mathlib.Omega.{arith}
use lib.ListN.{length}
use Rattle.moves.specs.declared.Move.{Move}
use Rattle.moves.proofs.Writing.{adds_none, adds_same}
use Rattle.generate.proofs.Offering.{offer_value, offer_said, offer_found}
use Rattle.generators.proofs.offer.Goals as goal

pub takes_at-requires-clause-value_value : goal.takes_at-requires-clause-value_value
takes_at-requires-clause-value_value c = offer_value c.requires.offers

pub write-requires-clause-m_value : goal.write-requires-clause-m_value
write-requires-clause-m_value c = offer_said c.requires.offers c.move_from.ensures

pub write-requires-clause-n_in_bounds : goal.write-requires-clause-n_in_bounds
write-requires-clause-n_in_bounds c =
    omega (arith, c.requires.j_in_bounds, ap length (offer_found c.requires.offers c.takes_at.ensures c.if-takes_at.true))

pub returns-then-takes_at : goal.returns-then-takes_at
returns-then-takes_at c = adds_same (ap (λ (m : Move). m ∷ []) c.move_from.ensures ∙ sym (offer_found c.requires.offers c.takes_at.ensures c.if-takes_at.true)) c.write.ensures

pub returns : goal.returns
returns c = adds_none _ _ (offer_found c.requires.offers c.takes_at.ensures c.if-takes_at.false)
