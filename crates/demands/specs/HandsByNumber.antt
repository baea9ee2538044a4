-- Request (i), sentence by sentence: "Hands by number. Players ask for 'number 617', as at home."
use Rattle.std.specs.Prelude.{◌≡◌, true, false, List, [], ◌∷◌, ℕ, ◌<◌, ◌≤◌, length, take}
use Rattle.shuffle.specs.Shuffle.{deck_of}
use Rattle.intake.specs.Deal.{dealt}
use Rattle.intake.specs.Number.{is_number}
use Rattle.crossing.specs.Wire.{board_room, board_in}
use Rattle.corbelnib.specs.Calls.{number, Call, GoodBoard}
use Rattle.demands.specs.Demand2.{table_in}

-- the bytes of the board that was dealt
abbrev pub dealt_by : Call number → List ℕ
dealt_by c = take board_room c.after

pub record HandsByNumber : Type 0 where
  -- "Add deals 1 to 32,000 by the widely published generator": where there is room for a board, each is dealt, and is the deal of its deck
  pub deals : (c : Call number) → is_number c.input ≡ true → board_room ≤ length c.before
      → (c.number ≡ 0) × (table_in (dealt_by c) ≡ dealt (deck_of c.input))
  -- "Prove for every number that the board is well formed"
  pub well_formed : (c : Call number) → c.number ≡ 0 → GoodBoard (dealt_by c)
  pub columns : (c : Call number) → c.number ≡ 0 → (board_in (dealt_by c)).counts ≡ 7 ∷ 7 ∷ 7 ∷ 7 ∷ 6 ∷ 6 ∷ 6 ∷ 6 ∷ []
  -- "Refusals: 41, number outside 1 to 32,000, checked alone"
  pub refused : (c : Call number) → is_number c.input ≡ false → c.number ≡ 41
  -- (21 comes after it: a number that is one, and too little room for the board)
  pub narrow : (c : Call number) → is_number c.input ≡ true → length c.before < board_room → c.number ≡ 21
