-- Items one after the other.
use Rattle.std.specs.Prelude.{List, ℕ, ◌+◌, ◌*◌, slice_index}

-- a two-byte count, the higher byte first, and as many bytes as it says
unfoldable pub counted_size : List ℕ → ℕ
counted_size bytes = 2 + (256 * slice_index bytes 0 + slice_index bytes 1)
