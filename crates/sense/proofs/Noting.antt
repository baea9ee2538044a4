-- How a move is written on a record: the most cards that go, an empty column, the written move and its text.
use mathlib.Core.Path.{◌≡◌, refl, sym, ap, ap₂, ◌∙◌}
use mathlib.Core.Bool.{Bool, true, false, cond, ◌&&◌}
use Prim.Native.Nat.{ℕ, ◌<◌, ◌≤◌}
use native.Mathlib.Omega.{arith}
use borrow.Author.Tests.{eq-eqb, ne_eqb, lt-ltb, le-ltb, ltb-true}
use lib.Dec.{eqb, ltb}
use lib.ListN.{length, get_or}
use Rattle.card.specs.declared.Card.{Card}
use Rattle.board.specs.Record.{shown}
use Rattle.board.specs.Inner.{Sound}
use Rattle.board.specs.declared.Board.{Board}
use Rattle.board.proofs.Soundness.{column_length}
use Rattle.questions.proofs.Asking.{shown_column}
use Rattle.moves.specs.Move.{sayable}
use Rattle.moves.specs.declared.Move.{Move}
use Rattle.moves.specs.declared.Move.TheVariants.{TableauToTableau}
use Rattle.moves.proofs.Records.{said_from, said_to}
use Rattle.sense.specs.Meant.{vacant, most_into, jot_of}
use Rattle.notation.specs.declared.Jot.TheVariants.{Between, Counted}

-- ---- cards from column to column

pub run_places : {m : Move} {s d n : ℕ} {c : Card} → m ≡ TableauToTableau s d n c → sayable m ≡ true → (s < 8) × (d < 8)
run_places {m} {s} {d} {n} {c} e said =
    let f = ap sayable (sym e) ∙ said in
    (ltb-true s 8 (said_from (TableauToTableau s d n c) f), ltb-true d 8 (said_to (TableauToTableau s d n c) f))

module _ {b : Board} (sound : Sound b) (s d n : ℕ) (h : d < 8) (c : Card) where
  lies : vacant (shown b) d ≡ eqb (get_or b.counts d 0) 0
  unfolding vacant
  lies = ap (λ (k : ℕ). eqb k 0) (ap length (sym (shown_column b d h)) ∙ column_length sound.in_columns d h)

  by_tests : (v f : Bool) → vacant (shown b) d ≡ v → ltb n (most_into (shown b) s d) ≡ f
      → cond (v && f) (Counted s d n) (Between s d) ≡ jot_of (shown b) (TableauToTableau s d n c)
  unfolding jot_of
  by_tests v f p q = ap₂ (λ (x y : Bool). cond (x && y) (Counted s d n) (Between s d)) (sym p) (sym q)

  -- onto other cards
  pub onto_jot : (get_or b.counts d 0 ≡ 0 → ⊥) → Between s d ≡ jot_of (shown b) (TableauToTableau s d n c)
  onto_jot z = by_tests false (ltb n (most_into (shown b) s d)) (lies ∙ ne_eqb (get_or b.counts d 0) 0 z) refl

  module _ (z : get_or b.counts d 0 ≡ 0) {most : ℕ} (m : most ≡ most_into (shown b) s d) where
    -- fewer than the most into an empty column
    pub few_jot : n < most → Counted s d n ≡ jot_of (shown b) (TableauToTableau s d n c)
    few_jot l = by_tests true true (lies ∙ eq-eqb (get_or b.counts d 0) 0 z) (lt-ltb n (most_into (shown b) s d) (omega arith))

    -- the most
    pub most_jot : most ≤ n → Between s d ≡ jot_of (shown b) (TableauToTableau s d n c)
    most_jot l = by_tests true false (lies ∙ eq-eqb (get_or b.counts d 0) 0 z) (le-ltb n (most_into (shown b) s d) (omega arith))
