-- The pack of 52, in the order ace of clubs, diamonds, hearts, spades, then the twos, and so on.
use Rattle.std.specs.Prelude.{ℕ, ◌+◌, ◌-◌, ◌*◌, ◌/◌, ◌%◌}

-- the code of the card at a place of the pack, 0 to 51
unfoldable pub card_at : ℕ → ℕ
card_at k = (k / 4 + 1) * 16 + k % 4

-- the place of a card in the pack
unfoldable pub place_of : ℕ → ℕ
place_of x = (x / 16 - 1) * 4 + x % 16
