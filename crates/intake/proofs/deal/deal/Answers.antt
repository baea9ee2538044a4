-- What `deal` leaves to be shown, refusal by refusal, and the board.
use mathlib.Core.Path.{sym, ap, ◌∙◌}
use mathlib.Core.List.{List, [], ◌∷◌}
use Prim.Native.Nat.{ℕ}
use lib.ListN.{replicate}
use Rattle.base.specs.Answer.{given}
use Rattle.board.specs.declared.Board.{Board}
use Rattle.intake.proofs.Dealing.{no_deck, deck_code_lem, deck_twice, deck_dealt, board_dealt}
use Rattle.board.specs.Record.{laid}
use Rattle.intake.proofs.deal.deal.Goals as goal

pub returns-then-deck-ne52 : goal.returns-then-deck-ne52
returns-then-deck-ne52 c = sym (no_deck c.args.deck.now c.if-deck-ne52.true)

pub returns-then-not-are_cards : goal.returns-then-not-are_cards
returns-then-not-are_cards c = sym (deck_code_lem c.args.deck.now c.if-deck-ne52.false (sym c.are_cards.ensures ∙ c.if-not-are_cards.true))

pub none_twice-requires : goal.none_twice-requires
none_twice-requires c = (sym c.are_cards.ensures ∙ c.if-not-are_cards.false)

pub returns-then-not-none_twice : goal.returns-then-not-none_twice
returns-then-not-none_twice c = sym (deck_twice c.args.deck.now c.if-deck-ne52.false (sym c.are_cards.ensures ∙ c.if-not-are_cards.false) (sym c.none_twice.ensures ∙ c.if-not-none_twice.true))

pub returns : goal.returns
returns c =
    sym
    (deck_dealt c.args.deck.now c.if-deck-ne52.false (sym c.are_cards.ensures ∙ c.if-not-are_cards.false) (sym c.none_twice.ensures ∙ c.if-not-none_twice.false)
    ∙ ap (λ (b : Board). given b) (board_dealt c.args.deck.now c.if-deck-ne52.false)
    ∙ ap (λ (t : List ℕ). given (laid (replicate 4 255) (replicate 4 0) (7 ∷ 7 ∷ 7 ∷ 7 ∷ 6 ∷ 6 ∷ 6 ∷ 6 ∷ []) t)) (sym c.lay_out-tableau.ensures))
