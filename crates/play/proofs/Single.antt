-- Moves of one card: every kind but a run's; and why such a move is refused.
use Rattle.std.specs.Prelude.{None, Some, Option}
use mathlib.Core.Path.{◌≡◌, refl, sym, ap, ◌∙◌}
use mathlib.Core.Bool.{true}
use Prim.Native.Nat.{ℕ, ◌≤◌}
use native.Mathlib.Omega.{arith}
use lib.ListN.{length, get_or}
use Rattle.base.specs.Words.{all}
use Rattle.base.specs.Answer.{refused}
use Rattle.card.specs.Card.{is_card, is_value, code_of}
use Rattle.card.specs.declared.Card.{Card}
use Rattle.board.specs.Table.{Table}
use Rattle.board.specs.Verdict.{Verdict}
use Rattle.board.specs.Record.{shown}
use Rattle.board.specs.Inner.{Sound}
use Rattle.board.specs.declared.Board.{Board}
use Rattle.board.proofs.Fair.{shows_fair}
use Rattle.questions.specs.Questions.{top_of}
use Rattle.moves.specs.Move.{from, to, count, card, sayable}
use Rattle.moves.specs.Play.{there, hand, elsewhere, within_limit}
use Rattle.moves.specs.Causes.{ruling}
use Rattle.moves.specs.Inner.{landing}
use Rattle.moves.proofs.Records.{said_from}
use Rattle.moves.proofs.Fairness.{fair_cards}
use Rattle.moves.proofs.Deciding.{one_named, one_is_run}
use Rattle.moves.proofs.Ruling.{ruled_empty, ruled_other, ruled_rest}
use Rattle.play.proofs.Tops.{top_empty, some_there, top_value_lem, top_code_lem}
use Rattle.moves.specs.declared.Move.{Move}
use Rattle.moves.specs.declared.Move.TheVariants.{TableauToTableau, TableauToFoundation, TableauToFreeCell, FreeCellToTableau, FreeCellToFoundation, FoundationToTableau}

pub of_one : (m : Move) → ((s d n : ℕ) (c : Card) → m ≡ TableauToTableau s d n c → ⊥)
    → (count m ≡ 1) × ((elsewhere (from m) (to m) ≡ true) × ((t : Table) → within_limit t (from m) (to m) (count m) ≡ true))
of_one (TableauToTableau s d n c) k = absurd (k s d n c refl)
of_one (TableauToFoundation s c) k = (refl, (refl, λ t. refl))
of_one (TableauToFreeCell s i c) k = (refl, (refl, λ t. refl))
of_one (FreeCellToTableau i d c) k = (refl, (refl, λ t. refl))
of_one (FreeCellToFoundation i c) k = (refl, (refl, λ t. refl))
of_one (FoundationToTableau s d c) k = (refl, (refl, λ t. refl))

-- ---- why a move of one card is refused

module _ (b : Board) (m : Move) (sound : Sound b) (said : sayable m ≡ true) (one : count m ≡ 1) (away : elsewhere (from m) (to m) ≡ true)
    (limit : within_limit (shown b) (from m) (to m) (count m) ≡ true) {top : Option Card} (e : top ≡ top_of (there (shown b) (from m))) where
  pub one_empty : top ≡ None → refused 33 ≡ ruling (shown b) m
  one_empty q = sym (ruled_empty (shown b) m away (let z = top_empty (there (shown b) (from m)) (sym e ∙ q) in omega arith))

  module _ {c : Card} (q : top ≡ Some c) where
    cards : all is_card (there (shown b) (from m)) ≡ true
    cards = fair_cards (shown b) (from m) (shows_fair sound) (said_from m said)

    some : 1 ≤ length (there (shown b) (from m))
    some = let s = some_there (there (shown b) (from m)) c (sym e ∙ q) in omega arith

    in_hand : get_or (hand (shown b) m) 0 0 ≡ code_of c
    in_hand = one_named (shown b) m one ∙ top_code_lem (there (shown b) (from m)) c (sym e ∙ q) cards

    pub one_value : is_value c.value ≡ true
    one_value = top_value_lem (there (shown b) (from m)) c (sym e ∙ q) cards

    module _ {x y : ℕ} (code : x ≡ code_of (card m)) (lies : y ≡ code_of c) where
      pub one_other : (y ≡ x → ⊥) → refused 34 ≡ ruling (shown b) m
      one_other f = sym (ruled_other (shown b) m away some (omega (arith, some)) (λ z. f (lies ∙ sym in_hand ∙ z ∙ sym code)))

      pub one_lands : y ≡ x → {v : Verdict} → v ≡ landing (shown b) (to m) x → v ≡ ruling (shown b) m
      one_lands z l =
          l ∙ ap (landing (shown b) (to m)) code
          ∙ sym (ruled_rest (shown b) m away some (omega (arith, some)) (in_hand ∙ sym lies ∙ z ∙ code) ∙ rw (limit, one_is_run (shown b) m one some))
