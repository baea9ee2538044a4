-- What `one_ruled` leaves to be shown: the card there, and then the place.
use mathlib.Core.Path.{◌≡◌, sym, ap, ◌∙◌, subst}
use mathlib.Core.Bool.{true}
use Prim.Native.Nat.{ℕ}
use Rattle.card.specs.Card.{is_card, is_value, code_of}
use Rattle.card.specs.declared.Card.{Card}
use Rattle.card.proofs.Codes.{code_is_card}
use Rattle.board.specs.Record.{shown, laid}
use Rattle.questions.specs.Questions.{top_of}
use Rattle.moves.specs.Move.{is_place}
use Rattle.moves.specs.declared.Place.{Place}
use Rattle.moves.specs.Play.{there}
use Rattle.moves.specs.Inner.{landing}
use Rattle.moves.proofs.Records.{said_from, said_to, said_value}
use Rattle.play.proofs.Single.{one_empty, one_value, one_other, one_lands}
use Rattle.play.proofs.rule.one_ruled.Goals as goal

pub top_there-requires : goal.top_there-requires
top_there-requires c = record { sound = c.requires.sound; place_value = subst (λ (p : Place). is_place p ≡ true) (sym c.source_of.ensures) (said_from c.args.m c.requires.m_value) }

pub returns-in_default : goal.returns-in_default
returns-in_default c = let b = laid c.args.cells.now c.args.foundation.now c.args.counts.now c.args.tableau.now in
    let top = c.top_there.ensures ∙ ap (λ (p : Place). top_of (there (shown b) p)) c.source_of.ensures in
    one_empty b c.args.m c.requires.sound c.requires.m_value c.requires.m_value_2 c.requires.m_value_3 c.requires.m_value_4 top c.in_default.is

pub code_of-code-requires : goal.code_of-code-requires
code_of-code-requires c = subst (λ (d : Card). is_value d.value ≡ true) (sym c.deepest_of.ensures) (said_value c.args.m c.requires.m_value)

pub code_of-requires : goal.code_of-requires
code_of-requires c = let b = laid c.args.cells.now c.args.foundation.now c.args.counts.now c.args.tableau.now in
    let top = c.top_there.ensures ∙ ap (λ (p : Place). top_of (there (shown b) p)) c.source_of.ensures in
    one_value b c.args.m c.requires.sound c.requires.m_value c.requires.m_value_2 c.requires.m_value_3 c.requires.m_value_4 top c.in-Some.is

pub returns-then-code_of-code : goal.returns-then-code_of-code
returns-then-code_of-code c = let b = laid c.args.cells.now c.args.foundation.now c.args.counts.now c.args.tableau.now in
    let top = c.top_there.ensures ∙ ap (λ (p : Place). top_of (there (shown b) p)) c.source_of.ensures in
    one_other b c.args.m c.requires.sound c.requires.m_value c.requires.m_value_2 c.requires.m_value_3 c.requires.m_value_4 top c.in-Some.is (c.code_of-code.ensures ∙ ap code_of c.deepest_of.ensures) c.code_of.ensures c.if-code_of-code.true

pub put_there-requires : goal.put_there-requires
put_there-requires c = record { sound = c.requires.sound; place_value = subst (λ (p : Place). is_place p ≡ true) (sym c.target_of.ensures) (said_to c.args.m c.requires.m_value); code_value = subst (λ (x : ℕ). is_card x ≡ true) (sym (c.code_of-code.ensures ∙ ap code_of c.deepest_of.ensures)) (code_is_card _ (said_value c.args.m c.requires.m_value)) }

pub returns : goal.returns
returns c = let b = laid c.args.cells.now c.args.foundation.now c.args.counts.now c.args.tableau.now in
    let top = c.top_there.ensures ∙ ap (λ (p : Place). top_of (there (shown b) p)) c.source_of.ensures in
    one_lands b c.args.m c.requires.sound c.requires.m_value c.requires.m_value_2 c.requires.m_value_3 c.requires.m_value_4 top c.in-Some.is (c.code_of-code.ensures ∙ ap code_of c.deepest_of.ensures) c.code_of.ensures c.if-code_of-code.false (c.put_there.ensures ∙ ap (λ (p : Place). landing (shown b) p c.code_of-code.result) c.target_of.ensures)
