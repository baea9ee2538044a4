-- The twelve places that a card can go home from: columns 0 to 7, then cells.
use Rattle.std.specs.Prelude.{cond, List, [], ◌∷◌, ℕ, ◌-◌, ltb, get_or}
use Rattle.card.specs.declared.Card.{Card}
use Rattle.board.specs.Table.{held}
use Rattle.moves.specs.declared.Move.{Move}
use Rattle.moves.specs.declared.Move.TheVariants.{TableauToFoundation, FreeCellToFoundation}

-- the cards at a place
unfoldable pub cards_at : List ℕ → List (List ℕ) → ℕ → List ℕ
cards_at cells columns place = cond (ltb place 8) (get_or columns place []) (held (get_or cells (place - 8) 0 ∷ []))

-- the move home from a place
unfoldable pub home_move : ℕ → Card → Move
home_move place c = cond (ltb place 8) (TableauToFoundation place c) (FreeCellToFoundation (place - 8) c)
