-- What the inner functions promise: lines written at a place, no longer than so much.
use Rattle.std.specs.Prelude.{◌≡◌, List, [], ◌++◌, ℕ, zero, suc, ◌+◌, ◌≤◌, length, take, drop}
use Rattle.base.specs.Put.{Puts}
use Rattle.onetext.specs.Text.{line}

-- some bytes at a place, at most so many
pub record PutsFew (old new : List ℕ) (at r most : ℕ) (s : List ℕ) : Type 0 where
  pub puts : Puts old new at r s
  pub few : r ≤ at + most

-- a line for each of the first n records of a list of bytes
unfoldable pub record_lines : ℕ → List ℕ → List ℕ
record_lines zero bytes = []
record_lines (suc n) bytes = line (take 5 bytes) ++ record_lines n (drop 5 bytes)

-- scratch for 64 nodes, and a list buffer
pub record Scratch (ns hs ks cs ls : List ℕ) : Type 0 where
  pub nodes : length ns ≡ 192
  pub heap : length hs ≡ 64
  pub keys : length ks ≡ 128
  pub costs : length cs ≡ 128
  pub list : length ls ≡ 1000
