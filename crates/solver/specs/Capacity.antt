-- How many nodes the lent scratch holds.
use Rattle.std.specs.Prelude.{ℕ, ◌*◌, ◌/◌, min}

-- a node takes three words of 32 bits, a word of 64 bits among the waiting, and two entries of the table of costs, each a word of
-- 64 bits and a byte: 38 bytes in all. The least over the parts counts, and numbers of nodes have 32 bits.
unfoldable pub capacity_of : ℕ → ℕ → ℕ → ℕ → ℕ
capacity_of nodes heap keys costs = min (nodes / 3) (min heap (min (keys / 2) (min (costs / 2) 4294967295)))

-- the entries that the table uses: two a node, as many as 32 bits can number
unfoldable pub entries_of : ℕ → ℕ
entries_of capacity = min (capacity * 2) 4294967296
