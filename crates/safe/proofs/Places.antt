-- The twelve places: the card on top of each, and the move home from it.
use Rattle.std.specs.Prelude.{Option}
use mathlib.Core.Path.{◌≡◌, sym, ap, ◌∙◌}
use mathlib.Core.List.{List, [], ◌∷◌}
use Prim.Native.Nat.{ℕ, ◌-◌, ◌<◌, ◌≤◌}
use borrow.Author.Tests.{lt-ltb, le-ltb}
use lib.ListN.{get_or}
use Rattle.base.specs.Words.{listed}
use Rattle.card.specs.declared.Card.{Card}
use Rattle.base.proofs.Words.{get_or-listed}
use Rattle.board.specs.Table.{held}
use Rattle.questions.specs.Questions.{top_of, cell_of}
use Rattle.moves.specs.declared.Move.TheVariants.{TableauToFoundation, FreeCellToFoundation}
use Rattle.play.proofs.Tops.{cell_top}
use Rattle.safe.specs.Inner.{cards_at, home_move}

module _ (cells : List ℕ) (columns : List (List ℕ)) (place : ℕ) where
  pub at_column : place < 8 → cards_at cells columns place ≡ get_or columns place []
  unfolding cards_at
  at_column h = rw (lt-ltb place 8 h)

  pub at_cell : 8 ≤ place → cards_at cells columns place ≡ held (get_or cells (place - 8) 0 ∷ [])
  unfolding cards_at
  at_cell h = rw (le-ltb place 8 h)

module _ (cells : List ℕ) (column : ℕ → List ℕ) (place : ℕ) {r : Option Card} where
  pub column_place : place < 8 → r ≡ top_of (column place) → r ≡ top_of (cards_at cells (listed 8 column) place)
  column_place h e = e ∙ ap top_of (sym (at_column cells (listed 8 column) place h ∙ get_or-listed column 8 place [] h))

  pub cell_place : 8 ≤ place → r ≡ cell_of (get_or cells (place - 8) 0) → r ≡ top_of (cards_at cells (listed 8 column) place)
  cell_place h e = e ∙ cell_top (get_or cells (place - 8) 0) ∙ ap top_of (sym (at_cell cells (listed 8 column) place h))

module _ (place : ℕ) (c : Card) where
  pub column_home : place < 8 → TableauToFoundation place c ≡ home_move place c
  unfolding home_move
  column_home h = rw (lt-ltb place 8 h)

  pub cell_home : 8 ≤ place → FreeCellToFoundation (place - 8) c ≡ home_move place c
  unfolding home_move
  cell_home h = rw (le-ltb place 8 h)
