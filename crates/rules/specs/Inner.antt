-- What the inner functions say of a column's top card.
use Rattle.std.specs.Prelude.{List, ℕ, ◌-◌, ◌/◌, length, get_or}

-- its value, 0 if there is none
unfoldable pub top_value : List ℕ → ℕ
top_value l = get_or l (length l - 1) 0 / 16
