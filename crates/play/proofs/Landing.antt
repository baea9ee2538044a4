-- What a place of a record takes.
use mathlib.Core.Path.{◌≡◌, sym, ap, ◌∙◌}
use mathlib.Core.Bool.{Bool, and-true}
use mathlib.Core.List.{List}
use Prim.Native.Nat.{ℕ, ◌<◌}
use lib.Dec.{eqb}
use lib.ListN.{get_or}
use Rattle.base.specs.Answer.{unless}
use Rattle.board.specs.Verdict.{Verdict, fine}
use Rattle.board.specs.Record.{column_at, shown}
use Rattle.board.specs.declared.Board.{Board}
use Rattle.questions.proofs.Asking.{shown_column, shown_cells, shown_foundation}
use Rattle.rules.specs.Fit.{fits_on, home_takes}
use Rattle.moves.specs.declared.Place.{Place}
use Rattle.moves.specs.declared.Place.TheVariants.{Column as column, Cell as cell, Home as home}
use Rattle.moves.specs.Play.{there, takes}
use Rattle.moves.specs.Inner.{landing}

module _ (b : Board) {r : Bool} {x y : ℕ} where
  pub shown-takes_column : (i : ℕ) → i < 8 → r ≡ fits_on (column_at b.counts b.tableau i) x → x ≡ y → r ≡ takes (shown b) (column i) y
  unfolding takes
  shown-takes_column i h e q =
      e ∙ ap (fits_on (column_at b.counts b.tableau i)) q ∙ ap (λ (l : List ℕ). fits_on l y) (shown_column b i h) ∙ sym (and-true (fits_on (there (shown b) (column i)) y))

  pub shown-takes-home : (s : ℕ) → r ≡ home_takes b.foundation x → x ≡ y → r ≡ takes (shown b) (home s) y
  unfolding takes
  shown-takes-home s e q = e ∙ ap (home_takes b.foundation) q ∙ ap (λ (l : List ℕ). home_takes l y) (shown_foundation b)

pub shown-takes_cell : (b : Board) (i y : ℕ) → eqb (get_or b.cells i 0) 255 ≡ takes (shown b) (cell i) y
unfolding takes
shown-takes_cell b i y = ap (λ (l : List ℕ). eqb (get_or l i 0) 255) (shown_cells b) ∙ sym (and-true (eqb (get_or (shown b).cells i 0) 255))

-- ---- or why it does not

module _ (b : Board) (x : ℕ) {v : Verdict} {ok : Bool} {p : Place} where
  pub lands_column : (i : ℕ) → p ≡ column i → i < 8 → ok ≡ fits_on (column_at b.counts b.tableau i) x → v ≡ unless ok 38 fine → v ≡ landing (shown b) p x
  unfolding landing
  lands_column i q h fit e =
      e ∙ ap (λ (o : Bool). unless o 38 fine) (fit ∙ ap (λ (l : List ℕ). fits_on l x) (shown_column b i h)) ∙ ap (λ (k : Place). landing (shown b) k x) (sym q)

  pub lands_home : (s : ℕ) → p ≡ home s → ok ≡ home_takes b.foundation x → v ≡ unless ok 40 fine → v ≡ landing (shown b) p x
  unfolding landing
  lands_home s q next e =
      e ∙ ap (λ (o : Bool). unless o 40 fine) (next ∙ ap (λ (l : List ℕ). home_takes l x) (shown_foundation b)) ∙ ap (λ (k : Place). landing (shown b) k x) (sym q)

pub lands_cell : (b : Board) (x : ℕ) {v : Verdict} {p : Place} (i : ℕ) → p ≡ cell i → v ≡ unless (eqb (get_or b.cells i 0) 255) 39 fine → v ≡ landing (shown b) p x
unfolding landing
lands_cell b x i q e =
    e ∙ ap (λ (l : List ℕ). unless (eqb (get_or l i 0) 255) 39 fine) (shown_cells b) ∙ ap (λ (k : Place). landing (shown b) k x) (sym q)
