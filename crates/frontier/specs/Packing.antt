-- A waiting node's key as one number, so that keys compare as the search compares nodes.
use Rattle.std.specs.Prelude.{ℕ, ◌+◌, ◌*◌}

-- 2^15 heuristics to a sum, 2^32 numbers to a heuristic
unfoldable pub packed : ℕ → ℕ → ℕ → ℕ
packed sum hope number = (sum * 32768 + hope) * 4294967296 + number
