-- The seven features of a board: each a sum, a most or a least over columns, cells or suits.
use Rattle.std.specs.Prelude.{Bool, false, cond, List, [], ◌∷◌, ℕ, zero, suc, ◌+◌, ◌-◌, ◌/◌, ◌≤◌, min, max, eqb, leb, length, get_or}
use Rattle.base.specs.Words.{sum}
use Rattle.board.specs.Table.{Table, held}
use Rattle.questions.specs.Questions.{home_count, empty_columns}
use Rattle.rules.specs.Fit.{home_takes}
use Rattle.runs.specs.Run.{run_length}
use Rattle.features.specs.declared.Features.{Features}

-- the greatest of f 0 .. f (n - 1), 0 of none; the least of f 0 .. f n
unfoldable pub greatest : ℕ → (ℕ → ℕ) → ℕ
greatest zero f = 0
greatest (suc n) f = max (greatest n f) (f n)

unfoldable pub least : ℕ → (ℕ → ℕ) → ℕ
least zero f = f 0
least (suc n) f = min (least n f) (f (suc n))

-- the last of some cards can go home
unfoldable pub last_goes_home : List ℕ → List ℕ → Bool
last_goes_home foundation [] = false
last_goes_home foundation (x ∷ []) = home_takes foundation x
last_goes_home foundation (x ∷ y ∷ l) = last_goes_home foundation (y ∷ l)

-- how many columns and cells have a card that can go home at once
unfoldable pub immediate_on : Table → ℕ
immediate_on t =
    sum 8 (λ i. cond (last_goes_home t.foundation (get_or t.columns i [])) 1 0)
    + sum 4 (λ i. cond (last_goes_home t.foundation (held (get_or t.cells i 0 ∷ []))) 1 0)

-- an ace, a two or a three in a column counts the cards on it
unfoldable pub blocked_in : List ℕ → ℕ
blocked_in [] = 0
blocked_in (x ∷ l) = cond (leb (x / 16) 3) (length l) 0 + blocked_in l

unfoldable pub blocked_on : List (List ℕ) → ℕ
blocked_on columns = sum 8 (λ i. blocked_in (get_or columns i []))

-- how far the tallest foundation is before the lowest
unfoldable pub imbalance_of : List ℕ → ℕ
imbalance_of foundation = greatest 4 (λ s. get_or foundation s 0) - least 3 (λ s. get_or foundation s 0)

unfoldable pub cells_used : List ℕ → ℕ
cells_used cells = sum 4 (λ i. cond (eqb (get_or cells i 0) 255) 0 1)

-- the longest run at the top of a column; its colours alternate
unfoldable pub longest_run : List (List ℕ) → ℕ
longest_run columns = greatest 8 (λ i. run_length (get_or columns i []))

unfoldable pub features_of : Table → Features
features_of t =
    record {
      home = home_count t.foundation;
      immediate = immediate_on t;
      blocked = blocked_on t.columns;
      imbalance = imbalance_of t.foundation;
      used = cells_used t.cells;
      empty = empty_columns t.columns;
      longest = longest_run t.columns;
    }

-- what the features of a well-formed board never pass
pub record Bounded (f : Features) : Type 0 where
  pub home : f.home ≤ 52
  pub immediate : f.immediate ≤ 4
  pub blocked : f.blocked ≤ 546
  pub imbalance : f.imbalance ≤ 13
  pub used : f.used ≤ 4
  pub empty : f.empty ≤ 8
  pub longest : f.longest ≤ 13
