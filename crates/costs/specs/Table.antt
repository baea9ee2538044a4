-- Where the entries stand. A key is looked for from its home upwards, from the last entry on to the first, until its entry or a
-- free one is met; so all that stand before a key's entry on this way are used.
use Rattle.std.specs.Prelude.{◌≡◌, true, cond, List, ℕ, ◌+◌, ◌-◌, ◌<◌, ◌≤◌, ◌%◌, leb, length, get_or}
use Rattle.costs.specs.Entries.{is_used, holds}

-- the first entry that is looked at for key k, of n
unfoldable pub home : ℕ → ℕ → ℕ
home n k = k % n

-- how many entries are passed on the way from key k's home to entry i
unfoldable pub away : ℕ → ℕ → ℕ → ℕ
away n k i = cond (leb (home n k) i) (i - home n k) (n + i - home n k)

-- all entries on key k's way to entry i are used
pub record Reached (costs : List ℕ) (n k i : ℕ) : Type 0 where
  pub way : (j : ℕ) → j < n → away n k j < away n k i → is_used costs j ≡ true

-- the first n entries are a table: no key has two, each is reached from its key's home, and costs are at most 200
pub record Table (keys costs : List ℕ) (n : ℕ) : Type 0 where
  pub some : 1 ≤ n
  pub most : n ≤ 4294967296
  pub keyed : n ≤ length keys
  pub costed : n ≤ length costs
  pub small : (i : ℕ) → i < n → get_or costs i 0 ≤ 201
  pub single : (i j k : ℕ) → i < n → j < n → holds keys costs i k ≡ true → holds keys costs j k ≡ true → i ≡ j
  pub reached : (i k : ℕ) → i < n → holds keys costs i k ≡ true → Reached costs n k i
