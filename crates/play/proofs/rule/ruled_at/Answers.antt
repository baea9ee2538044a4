-- What `ruled_at` leaves to be shown: a run, or one card.
use mathlib.Core.Path.{◌≡◌, sym, ap, ◌∙◌, subst}
use mathlib.Core.Bool.{true}
use Rattle.board.specs.Record.{shown, laid}
use Rattle.moves.specs.Move.{sayable}
use Rattle.moves.specs.Causes.{ruling}
use Rattle.moves.specs.declared.Move.{Move}
use Rattle.play.proofs.Single.{of_one}
use Rattle.play.proofs.rule.ruled_at.Goals as goal

pub run_ruled-requires : goal.run_ruled-requires
run_ruled-requires c = record { sound = c.requires.sound; card_value = subst (λ (m : Move). sayable m ≡ true) c.in-TableauToTableau.is c.requires.m_value }

pub one_ruled-requires : goal.one_ruled-requires
one_ruled-requires c = let b = laid c.args.cells.now c.args.foundation.now c.args.counts.now c.args.tableau.now in
    let one = of_one c.args.m c.in_default.not-TableauToTableau in
    record { sound = c.requires.sound; m_value = c.requires.m_value; m_value_2 = one.0; m_value_3 = one.1.0; m_value_4 = one.1.1 (shown b) }

pub returns-in-TableauToTableau : goal.returns-in-TableauToTableau
returns-in-TableauToTableau c = let b = laid c.args.cells.now c.args.foundation.now c.args.counts.now c.args.tableau.now in
    c.run_ruled.ensures ∙ ap (ruling (shown b)) (sym c.in-TableauToTableau.is)
