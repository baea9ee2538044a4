-- What the inner functions ask of the parts of a record that is known to be well formed, place by place.
use Rattle.std.specs.Prelude.{◌≡◌, true, false, Option, Some, None, List, ◌++◌, ℕ, ◌+◌, ◌*◌, ◌^◌, ◌/◌, ◌%◌, ◌<◌, ◌≤◌, length, get_or, take, drop}
use Rattle.base.specs.Words.{occurs}
use Rattle.card.specs.Card.{is_card}
use Rattle.card.specs.Pack.{card_at}
use Rattle.board.specs.Table.{cards_on}
use Rattle.board.specs.Verdict.{is_cell, none_twice}
use Rattle.board.specs.Record.{room, shown, tableau_room}
use Rattle.board.specs.declared.Board.{Board}

-- ---- what is asked of the parts of a record

pub record GoodCells (cells : List ℕ) : Type 0 where
  pub four : length cells ≡ 4
  pub codes : (i : ℕ) → i < 4 → is_cell (get_or cells i 0) ≡ true

pub record GoodPiles (foundation : List ℕ) : Type 0 where
  pub four : length foundation ≡ 4
  pub within : (s : ℕ) → s < 4 → get_or foundation s 0 ≤ 13

pub record GoodColumns (counts tableau : List ℕ) : Type 0 where
  pub eight : length counts ≡ 8
  pub full : length tableau ≡ tableau_room
  pub within : (i : ℕ) → i < 8 → get_or counts i 0 ≤ room
  pub codes : (i j : ℕ) → i < 8 → j < get_or counts i 0 → is_card (get_or tableau (i * room + j) 0) ≡ true
  pub spare : (i j : ℕ) → i < 8 → get_or counts i 0 ≤ j → j < room → get_or tableau (i * room + j) 0 ≡ 0

-- a record known to be well formed
pub record Sound (b : Board) : Type 0 where
  pub in_cells : GoodCells b.cells
  pub in_piles : GoodPiles b.foundation
  pub in_columns : GoodColumns b.counts b.tableau
  pub once : (k : ℕ) → k < 52 → occurs (card_at k) (cards_on (shown b)) ≡ 1

-- the array's lengths, which the type of a record in the code always gives
pub record Sized (b : Board) : Type 0 where
  pub four : length b.cells ≡ 4
  pub piles : length b.foundation ≡ 4
  pub eight : length b.counts ≡ 8
  pub full : length b.tableau ≡ tableau_room

-- ---- the eight columns as parts of some bytes, and the cards seen as one number

-- part i of the codes: as many as its count, from its start
unfoldable pub part_at : List ℕ → List ℕ → List ℕ → ℕ → List ℕ
part_at starts counts codes i = take (get_or counts i 0) (drop (get_or starts i 0) codes)

pub record Parts (starts counts codes : List ℕ) : Type 0 where
  pub starts8 : length starts ≡ 8
  pub counts8 : length counts ≡ 8
  pub within : (i : ℕ) → i < 8 → get_or starts i 0 + get_or counts i 0 ≤ length codes

-- bit k of a number
unfoldable pub bit_at : ℕ → ℕ → ℕ
bit_at n k = n / 2 ^ k % 2

-- a bit for each card of the list, and none of them there twice
pub record Holds (seen : ℕ) (l : List ℕ) : Type 0 where
  pub below : seen < 2 ^ 52
  pub bits : (k : ℕ) → k < 52 → bit_at seen k ≡ occurs (card_at k) l

-- what is known once the cards of a list were looked at
abbrev pub Knows : Option ℕ → List ℕ → Type 0
Knows (Some seen) l = Holds seen l
Knows None l = none_twice l ≡ false

abbrev pub Below : Option ℕ → Type 0
Below (Some seen) = seen < 2 ^ 52
Below None = Unit {0}

-- looking at the cards of s after those in `seen` gives r
pub record Marks (seen : ℕ) (s : List ℕ) (r : Option ℕ) : Type 0 where
  pub below : Below r
  pub knows : (l : List ℕ) → Holds seen l → Knows r (l ++ s)
