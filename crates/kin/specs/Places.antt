-- Places in lent memory. A node has five words: the first is its parent's place, the last its count; what the others say is not known
-- here. Places that were given back lie on a stack at the end of other lent words, the last one on top.
use Rattle.std.specs.Prelude.{◌≡◌, cond, List, ◌∷◌, ℕ, zero, suc, ◌+◌, ◌*◌, ◌-◌, ◌<◌, ◌≤◌, ltb, length, get_or, set}
use Rattle.kin.specs.Counted.{held, Counted, Rooted}

unfoldable pub parent_at : List ℕ → ℕ → ℕ
parent_at words i = get_or words (i * 5) 0

unfoldable pub refs_at : List ℕ → ℕ → ℕ
refs_at words i = get_or words (i * 5 + 4) 0

-- the words with another count for place i
unfoldable pub counting : List ℕ → ℕ → ℕ → List ℕ
counting words i refs = set words (i * 5 + 4) refs

-- of `fresh` places that were ever used, `living` are held, and the others lie on the stack, which ends at `capacity`: where its top is
abbrev pub top_at : ℕ → ℕ → ℕ → ℕ
top_at capacity fresh living = capacity - (fresh - living)

-- the places are there, as many are held as is said, and the stack has free places, each once
pub record Places (words slots : List ℕ) (capacity fresh living : ℕ) : Type 0 where
  pub worded : fresh * 5 ≤ length words
  pub slotted : capacity ≤ length slots
  pub roomy : fresh ≤ capacity
  pub small : capacity ≤ 2147483647
  pub alive : held fresh (refs_at words) ≡ living
  pub inside : (k : ℕ) → top_at capacity fresh living ≤ k → k < capacity → get_or slots k 0 < fresh
  pub free : (k : ℕ) → top_at capacity fresh living ≤ k → k < capacity → refs_at words (get_or slots k 0) ≡ 0
  pub once : (j k : ℕ) → top_at capacity fresh living ≤ j → j < k → k < capacity → get_or slots j 0 ≡ get_or slots k 0 → ⊥

-- and the counts are right for these marks
pub record Kin (capacity fresh : ℕ) (cost : ℕ → ℕ) (marks words slots : List ℕ) (living : ℕ) : Type 0 where
  pub places : Places words slots capacity fresh living
  pub counted : Counted fresh (parent_at words) (refs_at words) marks
  pub rooted : Rooted fresh (parent_at words) cost (refs_at words)

-- place i has a mark that may go: something is marked besides
pub record Pending (capacity fresh : ℕ) (words slots : List ℕ) (living i : ℕ) : Type 0 where
  pub cost : ℕ → ℕ
  pub other : ℕ
  pub marks : List ℕ
  pub kin : Kin capacity fresh cost (i ∷ other ∷ marks) words slots living

-- ---- giving back

-- what there is afterwards
pub record Kept : Type 0 where
  pub words : List ℕ
  pub slots : List ℕ
  pub living : ℕ

abbrev pub keeps : List ℕ → List ℕ → ℕ → Kept
keeps words slots living = record { words = words; slots = slots; living = living }

-- place i loses a mark; if that was all that held it, it is put on the stack, and its parent loses a child in the same way
unfoldable pub given_back : ℕ → ℕ → List ℕ → List ℕ → ℕ → ℕ → Kept
given_back capacity fresh words slots zero i = keeps words slots 0
given_back capacity fresh words slots (suc living) i =
    cond (ltb 1 (refs_at words i)) (keeps (counting words i (refs_at words i - 1)) slots (suc living))
    (given_back capacity fresh (counting words i 0) (set slots (top_at capacity fresh living) i) living (parent_at words i))

-- ---- taking

-- the place of a new node: the top of the stack, or the first place that was never used
unfoldable pub next_place : List ℕ → ℕ → ℕ → ℕ → ℕ
next_place slots capacity fresh living = cond (ltb living fresh) (get_or slots (top_at capacity fresh living) 0) fresh
