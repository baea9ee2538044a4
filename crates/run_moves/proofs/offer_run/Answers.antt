-- What `offer_run` leaves to be shown: within the run and the limit the fit decides.
use mathlib.Core.Path.{sym, ap, ◌∙◌}
use mathlib.Core.List.{[], ◌∷◌}
use Prim.Native.Nat.{◌+◌}
use native.Mathlib.Omega.{arith}
use lib.ListN.{length}
use Rattle.card.specs.declared.Card.{Card}
use Rattle.moves.specs.declared.Move.TheVariants.{TableauToTableau}
use Rattle.moves.proofs.Writing.{adds_none, adds_same}
use Rattle.generate.proofs.Columns.{run_short, run_there, code_there, run_said, run_found}
use Rattle.run_moves.proofs.offer_run.Goals as goal

pub overflow_add-above : goal.overflow_add-above
overflow_add-above c =
    omega (arith, run_short c.requires.reaches, c.requires.reaches.sound.in_columns.within c.args.i c.requires.reaches.leaves)

pub overflow_sub-deepest : goal.overflow_sub-deepest
overflow_sub-deepest c = run_there c.requires.reaches c.from-lie.ensures

pub fit_at-requires-clause-code_value : goal.fit_at-requires-clause-code_value
fit_at-requires-clause-code_value c = code_there c.requires.reaches c.from-lie.ensures

pub card_of-card-requires : goal.card_of-card-requires
card_of-card-requires c = code_there c.requires.reaches c.from-lie.ensures

pub write-requires-clause-m_value : goal.write-requires-clause-m_value
write-requires-clause-m_value c = run_said c.requires.reaches c.from-lie.ensures c.card_of-card.ensures

pub write-requires-clause-n_in_bounds : goal.write-requires-clause-n_in_bounds
write-requires-clause-n_in_bounds c = omega (arith, c.requires.k_in_bounds, ap length (run_found c.requires.reaches c.from-lie.ensures c.fit_at.ensures c.if-fit_at.true))

pub returns-then-fit_at : goal.returns-then-fit_at
returns-then-fit_at c =
    adds_same (ap (λ (x : Card). TableauToTableau c.args.i c.args.j (c.args.k + 1) x ∷ []) c.card_of-card.ensures ∙ sym (run_found c.requires.reaches c.from-lie.ensures c.fit_at.ensures c.if-fit_at.true)) c.write.ensures

pub returns : goal.returns
returns c = adds_none _ _ (run_found c.requires.reaches c.from-lie.ensures c.fit_at.ensures c.if-fit_at.false)
