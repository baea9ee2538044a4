-- What a record says of its places: the top of each, and what each takes.
use mathlib.Core.Path.{◌≡◌, sym, ap, ◌∙◌}
use mathlib.Core.Bool.{Bool, true}
use Prim.Native.Nat.{ℕ, ◌<◌}
use borrow.Author.Tests.{lt-ltb}
use lib.Dec.{eqb}
use lib.ListN.{get_or}
use Rattle.base.specs.Words.{all}
use Rattle.card.specs.Card.{is_card}
use Rattle.board.specs.Record.{column_at, shown}
use Rattle.board.specs.Inner.{Sound}
use Rattle.board.specs.declared.Board.{Board}
use Rattle.board.proofs.Fair.{shows_fair}
use Rattle.rules.specs.Fit.{fits_on, home_takes}
use Rattle.moves.specs.Move.{is_place}
use Rattle.moves.specs.declared.Place.{Place}
use Rattle.moves.specs.declared.Place.TheVariants.{Column as column, Cell as cell, Home as home}
use Rattle.moves.specs.Play.{there, takes}
use Rattle.moves.proofs.Fairness.{fair_cards}
use Rattle.play.proofs.Landing.{shown-takes_column, shown-takes-home, shown-takes_cell}
use Rattle.generate.specs.Found.{source_count, source}
use Rattle.generate.specs.declared.Way.{Way}
use Rattle.generate.specs.declared.Way.TheVariants.{ColumnToColumn, ColumnToHome, ColumnToCell, CellToColumn, CellToHome, HomeToColumn}

-- ---- only cards lie there

pub source-there : (w : Way) (i : ℕ) → i < source_count w → is_place (source w i) ≡ true
source-there ColumnToColumn i h = lt-ltb i 8 h
source-there ColumnToHome i h = lt-ltb i 8 h
source-there ColumnToCell i h = lt-ltb i 8 h
source-there CellToColumn i h = lt-ltb i 4 h
source-there CellToHome i h = lt-ltb i 4 h
source-there HomeToColumn i h = lt-ltb i 4 h

pub cards-there : {b : Board} → Sound b → (w : Way) (i : ℕ) → i < source_count w → all is_card (there (shown b) (source w i)) ≡ true
cards-there {b} s w i h = fair_cards (shown b) (source w i) (shows_fair s) (source-there w i h)

-- ---- what a place takes

module _ {b : Board} (sound : Sound b) {p : Place} {y : ℕ} (j : ℕ) where
  pub takes_column : {r : Bool} {x : ℕ} → p ≡ column j → j < 8 → r ≡ fits_on (column_at b.counts b.tableau j) x → x ≡ y → r ≡ takes (shown b) p y
  takes_column q h e code = shown-takes_column b j h e code ∙ ap (λ (k : Place). takes (shown b) k y) (sym q)

  pub takes-home : {r : Bool} {x : ℕ} → p ≡ home j → r ≡ home_takes b.foundation x → x ≡ y → r ≡ takes (shown b) p y
  takes-home q e code = shown-takes-home b j e code ∙ ap (λ (k : Place). takes (shown b) k y) (sym q)

pub takes_cell : {b : Board} → Sound b → {p : Place} (j y : ℕ) → p ≡ cell j → eqb (get_or b.cells j 0) 255 ≡ takes (shown b) p y
takes_cell {b} sound j y q = shown-takes_cell b j y ∙ ap (λ (k : Place). takes (shown b) k y) (sym q)
