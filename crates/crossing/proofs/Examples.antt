-- The plain questions of a table, evaluated on one board, so that a suit, a column or a cell taken for another is seen: clubs are home to the king,
-- diamonds to the queen, hearts to the knave, spades to the ten; the king of diamonds and the queen of hearts lie in cells 0 and 2, the king of
-- hearts with the knave of spades on it in column 0, the queen of spades with the king on it in column 3.
use mathlib.Core.Path.{◌≡◌, refl}
use mathlib.Core.List.{List, ◌∷◌, ◌++◌}
use Prim.Native.Nat.{ℕ}
use lib.ListN.{replicate}
use Rattle.base.specs.Words.{every, all, occurs, listed, concat, sum}
use Rattle.card.specs.Suit.{suit_at}
use Rattle.card.specs.Card.{is_value, code_of, is_card, card_of}
use Rattle.card.specs.Pack.{card_at}
use Rattle.board.specs.Table.{pile, piles, held, cards_on}
use Rattle.board.specs.Verdict.{is_cell, only_cards, none_twice, none_missing, verdict_on}
use Rattle.board.specs.Record.{spare_at, column_at, shown, shapely, examined}
use Rattle.questions.specs.Questions.{top_of, cell_of, top_asked, cell_asked, foundation_asked, won_on, won_asked, empty_cells, empty_columns}
use Rattle.rules.specs.Limit.{usable, most_moved}
use Rattle.rules.specs.Asked.{most_asked}
use Rattle.crossing.specs.Crossing.{left}
use Rattle.crossing.specs.Wire.{board_in}
use Rattle.crossing.specs.Questions.{top_left, cell_left, home_left, most_left, won_left}

abbrev pub late : List ℕ
late =
    209 ∷ 255 ∷ 194 ∷ 255 ∷ 13 ∷ 12 ∷ 11 ∷ 10 ∷ 2 ∷ 0 ∷ 0 ∷ 2 ∷ 0 ∷ 0 ∷ 0 ∷ 0 ∷ 210 ∷ 179 ∷ (replicate 154 0 ++ (195 ∷ 211 ∷ replicate 258 0))

opened : Unit {0}
unfolding every all occurs listed concat sum suit_at is_value code_of is_card card_of card_at pile piles held cards_on is_cell only_cards none_twice none_missing verdict_on spare_at column_at shown shapely examined top_of cell_of top_asked cell_asked foundation_asked won_on won_asked empty_cells empty_columns usable most_moved most_asked board_in top_left cell_left home_left most_left won_left
opened = tt

-- which suit is asked for
pub home_clubs : home_left late 0 99 ≡ left 0 13
unfolding opened
home_clubs = refl

pub home_diamonds : home_left late 1 99 ≡ left 0 12
unfolding opened
home_diamonds = refl

pub home_hearts : home_left late 2 99 ≡ left 0 11
unfolding opened
home_hearts = refl

pub home_spades : home_left late 3 99 ≡ left 0 10
unfolding opened
home_spades = refl

-- a place that is none
pub home_none : home_left late 4 99 ≡ left 30 99
unfolding opened
home_none = refl

-- which column, and which end of it
pub top_first : top_left late 0 99 ≡ left 0 179
unfolding opened
top_first = refl

pub top_empty : top_left late 1 99 ≡ left 0 255
unfolding opened
top_empty = refl

pub top_fourth : top_left late 3 99 ≡ left 0 211
unfolding opened
top_fourth = refl

pub top_none : top_left late 8 99 ≡ left 30 99
unfolding opened
top_none = refl

-- which cell
pub cell_first : cell_left late 0 99 ≡ left 0 209
unfolding opened
cell_first = refl

pub cell_empty : cell_left late 1 99 ≡ left 0 255
unfolding opened
cell_empty = refl

pub cell_third : cell_left late 2 99 ≡ left 0 194
unfolding opened
cell_third = refl

pub cell_none : cell_left late 4 99 ≡ left 30 99
unfolding opened
cell_none = refl

-- two cells and six columns are empty: half as many go into an empty column
pub most_onto : most_left late 0 99 ≡ left 0 192
unfolding opened
most_onto = refl

pub most_into_lem : most_left late 1 99 ≡ left 0 96
unfolding opened
most_into_lem = refl

pub not_won : won_left late 99 ≡ left 0 0
unfolding opened
not_won = refl
