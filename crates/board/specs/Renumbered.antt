-- A table with its cells and columns under other numbers.
use Rattle.std.specs.Prelude.{◌≡◌, [], ℕ, ◌<◌, get_or}
use Rattle.base.specs.Words.{listed}
use Rattle.board.specs.Table.{Table}

-- p renumbers the places 0 to n - 1, and q numbers them back
pub record Renumbers (n : ℕ) (p q : ℕ → ℕ) : Type 0 where
  pub within : (i : ℕ) → i < n → p i < n
  pub back : (i : ℕ) → i < n → q (p i) ≡ i
  pub again : (j : ℕ) → j < n → q j < n
  pub forth : (j : ℕ) → j < n → p (q j) ≡ j

-- a table with its cells and columns renumbered
unfoldable pub renumbered : (ℕ → ℕ) → (ℕ → ℕ) → Table → Table
renumbered cell column t =
    record {
      cells = listed 4 (λ i. get_or t.cells (cell i) 0);
      foundation = t.foundation;
      columns = listed 8 (λ i. get_or t.columns (column i) []);
    }
