-- The table as a card player sees it: four cells, four foundation piles, eight columns.
use Rattle.std.specs.Prelude.{cond, List, [], ◌∷◌, ◌++◌, ℕ, ◌+◌, ◌*◌, get_or, eqb}
use Rattle.base.specs.Words.{listed, concat}

-- A cell holds a card's code, or 255 (FF) when it is empty. A foundation pile is counted, by suit, ace upward.
-- A column is the list of its codes, the deepest first.
pub record Table : Type 0 where
  pub cells : List ℕ
  pub foundation : List ℕ
  pub columns : List (List ℕ)

-- the first n cards of a suit: ace, two, ..
unfoldable pub pile : ℕ → ℕ → List ℕ
pile suit n = listed n (λ v. (v + 1) * 16 + suit)

-- the cards of all four piles
unfoldable pub piles : List ℕ → List ℕ
piles foundation = concat (listed 4 (λ s. pile s (get_or foundation s 0)))

-- the cards in the cells, the empty ones passed over
unfoldable pub held : List ℕ → List ℕ
held [] = []
held (c ∷ cells) = cond (eqb c 255) (held cells) (c ∷ held cells)

-- every card on the table
unfoldable pub cards_on : Table → List ℕ
cards_on t = piles t.foundation ++ (held t.cells ++ concat t.columns)
